-- Orders of events, what a location holds after one, and what a read sees in one (document 01, "Paths, conflicts, races"; document 02, K3). Assumes nothing.
use Rattle.std.specs.Prelude.{ℕ, zero, suc, ◌+◌, ◌-◌, ◌<◌, ◌≤◌, ◌≡◌, Bool, true, false, cond, ◌&&◌, List, [], ◌∷◌, ◌⊎◌, ◌↔◌, ◌≢◌, eqb}
use Rattle.std.proofs.Math.Option.{Option, none, some}
use Rattle.trace.specs.Trace.{Trace, WRITE, SUM}
use Rattle.trace.specs.Graph.{Arc}

-- 1 where x is p, else 0.
unfoldable pub one_if : ℕ → ℕ → ℕ
one_if x p = cond (eqb x p) 1 0

-- How often p stands in a list.
abbrev pub occurrences : ℕ → List ℕ → ℕ
occurrences p [] = 0
occurrences p (x ∷ xs) = one_if x p + occurrences p xs

-- Each entry is less than all that follow it.
abbrev pub Rising : List ℕ → Type 0
Rising [] = Unit {0}
Rising (x ∷ xs) = ((y : ℕ) → 0 < occurrences y xs → x < y) × Rising xs

-- "An order of a trace's events is a list that has each position once": each of 0 to n - 1, and no other.
pub record Order (n : ℕ) (o : List ℕ) : Type 0 where
  pub once : (p : ℕ) → p < n → occurrences p o ≡ 1
  pub no_other : (p : ℕ) → n ≤ p → occurrences p o ≡ 0

-- The place of the first p in a list, counted from 0; the list's length where there is none.
abbrev pub place : ℕ → List ℕ → ℕ
place p [] = 0
place p (x ∷ xs) = cond (eqb x p) 0 (suc (place p xs))

-- "An order keeps an arc if its start comes earlier than its end. For an order of the events up to some position, only the arcs between those events
-- count": an order of the events below n, and the arcs of a graph.
pub record KeepsArcs (tr : Trace) (graph n : ℕ) (o : List ℕ) : Type 0 where
  pub earlier : (p q : ℕ) → p < n → q < n → Arc tr graph p q → place p o < place q o

-- k, k + 1, and so on: m numbers.
abbrev pub count_up : ℕ → ℕ → List ℕ
count_up k zero = []
count_up k (suc m) = k ∷ count_up (suc k) m

-- The trace's own order: 0, 1, .., n - 1.
abbrev pub positions : ℕ → List ℕ
positions n = count_up 0 n

-- The entries that pass a test, in their order.
abbrev pub select : (ℕ → Bool) → List ℕ → List ℕ
select test [] = []
select test (x ∷ xs) = cond (test x) (x ∷ select test xs) (select test xs)

-- The positions from `from` up to `to` that pass a test, in position order.
unfoldable pub chosen : (ℕ → Bool) → ℕ → ℕ → List ℕ
chosen test from to = select test (count_up from (to - from))

-- What stands before the first r.
abbrev pub before : ℕ → List ℕ → List ℕ
before r [] = []
before r (x ∷ xs) = cond (eqb x r) [] (x ∷ before r xs)

-- What was found, or else x where it passed.
abbrev pub or_this : Option ℕ → Bool → ℕ → Option ℕ
or_this (some y) passed x = some y
or_this none true x = some x
or_this none false x = none

-- The latest entry of a list that passes a test, or none: what passes further on in the list comes first.
abbrev pub latest : (ℕ → Bool) → List ℕ → Option ℕ
latest test [] = none
latest test (x ∷ xs) = or_this (latest test xs) (test x) x

module _ (tr : Trace) where
  -- Event p is a write to the location l.
  unfoldable pub writes : ℕ → ℕ → Bool
  writes l p = eqb (tr.kind p) WRITE && eqb (tr.operand p) l

  -- Event p is a sum of the location l.
  unfoldable pub sums : ℕ → ℕ → Bool
  sums l p = eqb (tr.kind p) SUM && eqb (tr.operand p) l

  -- "A location's last write is the latest write to it in that order, or none."
  abbrev pub last_write : List ℕ → ℕ → Option ℕ
  last_write o l = latest (writes l) o

  -- u is in "the set of sums after that write": a sum of the location that no write of it follows. Where it has no write, all its sums are in the set.
  pub record SumSince (o : List ℕ) (l u : ℕ) : Type 0 where
    pub sum : sums l u ≡ true
    pub listed : 0 < occurrences u o
    pub after_writes : (w : ℕ) → writes l w ≡ true → 0 < occurrences w o → place w o < place u o

  -- After two lists the location holds "the same last write and the same set of sums after that write".
  pub record SameHeld (o o' : List ℕ) (l : ℕ) : Type 0 where
    pub equal_last_write : last_write o l ≡ last_write o' l
    pub sums_since : (u : ℕ) → SumSince o l u ↔ SumSince o' l u

  -- What it holds differs "in the last write or in the set of sums": some u is in one of the sets alone.
  abbrev pub HeldDiffers : List ℕ → List ℕ → ℕ → Type 0
  HeldDiffers o o' l = (last_write o l ≢ last_write o' l) ⊎ ((u : ℕ) × (SumSince o l u ↔ SumSince o' l u → ⊥))

  -- "A read sees the latest write to its location earlier in the order at hand, or none", and the set of sums after that write: what its location holds after
  -- the events before it.
  abbrev pub sees : List ℕ → ℕ → Option ℕ
  sees o r = last_write (before r o) (tr.operand r)

  abbrev pub SameSeen : List ℕ → List ℕ → ℕ → Type 0
  SameSeen o o' r = SameHeld (before r o) (before r o') (tr.operand r)

  abbrev pub SeenDiffers : List ℕ → List ℕ → ℕ → Type 0
  SeenDiffers o o' r = HeldDiffers (before r o) (before r o') (tr.operand r)
