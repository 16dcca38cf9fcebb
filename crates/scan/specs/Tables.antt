-- The tables of largest numbers: what they hold, and what the test of one access leaves in them. Assumes nothing.
use Rattle.std.specs.Prelude.{ℕ, max, ◌+◌, ◌-◌, ◌<◌, ◌≤◌, ◌≡◌, Bool, true, false, cond, List, ◌↔◌, length, get_or, set}
use Rattle.trace.specs.Trace.{READ, SUM, is_access, LOCATIONS}
use Rattle.trace.specs.Race.{conflicting}
use Rattle.scan.specs.Numbered.{Against}

-- For each location the largest number of an earlier write or sum, which a read is held against,
abbrev pub FOR_READS : ℕ
FOR_READS = 0

-- and of an earlier read or write, which a sum is held against. A write is held against both.
abbrev pub FOR_SUMS : ℕ
FOR_SUMS = 1024

-- The cells of both.
abbrev pub TABLES : ℕ
TABLES = 2048

module _ (kinds operands : List ℕ) (number : ℕ → ℕ) where
  -- v is the largest number of those of the first n events that an access of kind k to location l is held against, 0 where there is none: what is smaller
  -- than v is smaller than the number of one of them.
  abbrev pub Largest : ℕ → ℕ → ℕ → ℕ → Type 0
  Largest k l n v = (x : ℕ) → (x < v) ↔ ((p : ℕ) × (p < n) × Against kinds operands k l p × (x < number p))

  -- For each location.
  pub record Tables (n : ℕ) (c : List ℕ) : Type 0 where
    pub for_reads : (l : ℕ) → l < LOCATIONS → Largest READ l n (get_or c (FOR_READS + l) 0)
    pub for_sums : (l : ℕ) → l < LOCATIONS → Largest SUM l n (get_or c (FOR_SUMS + l) 0)

-- The two tables that an access of kind k is held against: FOR-READS twice for a read, both for a write, FOR-SUMS twice for a sum.
abbrev pub first_held : ℕ → ℕ
first_held k = cond (conflicting k READ) FOR_SUMS FOR_READS

abbrev pub second_held : ℕ → ℕ
second_held k = cond (conflicting k SUM) FOR_READS FOR_SUMS

-- The largest number that an access of kind k to location l is held against.
unfoldable pub held_against : List ℕ → ℕ → ℕ → ℕ
held_against c k l = max (get_or c (first_held k + l) 0) (get_or c (second_held k + l) 0)

-- What is asked for the test of an access of kind k to location l.
pub record Testable (c : List ℕ) (k l : ℕ) : Type 0 where
  pub access : is_access k ≡ true
  pub location : l < LOCATIONS
  pub room : TABLES ≤ length c

-- What is asked for two stores to the cells of location l.
pub record Keepable (c : List ℕ) (first second l : ℕ) : Type 0 where
  pub location : l < LOCATIONS
  pub room : TABLES ≤ length c
  pub first_table : first ≤ FOR_SUMS
  pub second_table : second ≤ FOR_SUMS

-- Where no sum has been kept, nothing is in FOR-READS that is not in FOR-SUMS too, so that a write need not be held against it.
abbrev pub Calm : List ℕ → Type 0
Calm c = (l : ℕ) → l < LOCATIONS → get_or c (FOR_READS + l) 0 ≤ get_or c (FOR_SUMS + l) 0

-- The larger of x and the number of location l in a table,
abbrev pub raised : List ℕ → ℕ → ℕ → ℕ → ℕ
raised c table l x = max (get_or c (table + l) 0) x

-- stored in that table and in another.
unfoldable pub stored_in : List ℕ → ℕ → ℕ → ℕ → ℕ → List ℕ
stored_in c first second l x = set (set c (first + l) (raised c first l x)) (second + l) (raised c first l x)

-- An access with number x is kept: a sum in FOR-READS, a read in FOR-SUMS, a write in both. For a write that passed, x is the largest in either.
unfoldable pub kept_in : List ℕ → ℕ → ℕ → ℕ → List ℕ
kept_in c k l x = stored_in c (FOR_SUMS - second_held k) (FOR_SUMS - first_held k) l x

-- What the test says: the access passes and is kept, or the largest number that it is held against is larger and no cell has changed.
abbrev pub TestSays : List ℕ → List ℕ → ℕ → ℕ → ℕ → Bool → Type 0
TestSays entry exit k l x true = (held_against entry k l ≤ x) × (exit ≡ kept_in entry k l x)
TestSays entry exit k l x false = (x < held_against entry k l) × (exit ≡ entry)

-- The number x in one table,
unfoldable pub raised_in : List ℕ → ℕ → ℕ → ℕ → List ℕ
raised_in c table l x = set c (table + l) (raised c table l x)

-- and in both that an access of kind k is kept in, each by itself: where it raced, x is not the largest.
unfoldable pub raced_in : List ℕ → ℕ → ℕ → ℕ → List ℕ
raced_in c k l x = raised_in (raised_in c (FOR_SUMS - second_held k) l x) (FOR_SUMS - first_held k) l x

-- The same test, of an access that is kept though it races.
abbrev pub RaceSays : List ℕ → List ℕ → ℕ → ℕ → ℕ → Bool → Type 0
RaceSays entry exit k l x true = (x < held_against entry k l) × (exit ≡ raced_in entry k l x)
RaceSays entry exit k l x false = (held_against entry k l ≤ x) × (exit ≡ kept_in entry k l x)
