-- Close pairs by numbers, and what the functions leave. In every definition c is the workspace's cells. Assumes nothing.
use Rattle.std.specs.Prelude.{ℕ, ◌+◌, ◌-◌, ◌*◌, ◌<◌, ◌≤◌, ◌≡◌, Bool, true, false, ◌&&◌, ◌||◌, List, map, ◌≢◌, eqb, ltb, length, get_or, set}
use Rattle.std.proofs.lemmas.List.Edits.{sets}
use mir.Val.{bool_byte}
use Rattle.trace.specs.Trace.{Trace, READ, WRITE, SUM, is_access, LOCATIONS, MAX_EVENTS}
use Rattle.trace.specs.Line.{halt_operand, passes, row, line_after}
use Rattle.trace.specs.Race.{conflicting}
use Rattle.trace.specs.Orders.{chosen}
use Rattle.trace.specs.Outcome.{Reply}
use Rattle.cells.specs.Cells.{SameFrom, Rest, NUMBER, number_in}
use Rattle.ranks.specs.States.{own_number}
use Rattle.scan.specs.Numbered.{Numbered, FirstRace}
use Rattle.scan.specs.Tables.{Tables, RaceSays}
use Rattle.pairs.specs.declared.Access.{Access}
use Rattle.pairs.specs.Pairs.{CLOSE, Pair, pairs_at, pairs_below, Slices, slices, too_short, list_checked, listing}

-- ---- the race test

-- Accesses s and t conflict, and t, the later one, has the smaller number.
unfoldable pub race_by : List ℕ → List ℕ → (ℕ → ℕ) → ℕ → ℕ → Bool
race_by kinds operands number s t =
    is_access (get_or kinds t 0)
    && (eqb (get_or operands s 0) (get_or operands t 0)
    && ((is_access (get_or kinds s 0) && conflicting (get_or kinds s 0) (get_or kinds t 0)) && ltb (number t) (number s)))

-- What is kept of an access t: its location and number, and which kinds conflict with its own.
pub record AccessAt (kinds operands c : List ℕ) (t : ℕ) (a : Access) : Type 0 where
  pub location : a.location ≡ get_or operands t 0
  pub number : a.number ≡ number_in c t
  pub read : a.read ≡ conflicting READ (get_or kinds t 0)
  pub write : a.write ≡ conflicting WRITE (get_or kinds t 0)
  pub sum : a.sum ≡ conflicting SUM (get_or kinds t 0)

-- A kind is one of those,
unfoldable pub conflicts_in : ℕ → Access → Bool
conflicts_in kind a = ((eqb kind READ && a.read) || (eqb kind WRITE && a.write)) || (eqb kind SUM && a.sum)

-- and event s, which has such a kind, has the location and the larger number.
unfoldable pub partner_in : List ℕ → List ℕ → List ℕ → Access → ℕ → Bool
partner_in kinds operands c a s =
    (eqb (get_or operands s 0) a.location && conflicts_in (get_or kinds s 0) a) && ltb a.number (number_in c s)

-- What is asked for events up to `to` to be held against an access.
pub record Readable (kinds operands c : List ℕ) (to : ℕ) : Type 0 where
  pub of_kinds : to ≤ length kinds
  pub of_operands : to ≤ length operands
  pub room : NUMBER + to ≤ length c

-- ---- one access

-- The partners of an access among the events from `from` up to `to` are marked, and there are so many of them.
pub record Marked (kinds operands c : List ℕ) (a : Access) (from to : ℕ) (marks : List ℕ) (count : ℕ) : Type 0 where
  pub long : length marks ≡ CLOSE
  pub each : (s : ℕ) → from ≤ s → s < to → get_or marks (s - from) 0 ≡ bool_byte (partner_in kinds operands c a s)
  pub counted : count ≡ length (chosen (partner_in kinds operands c a) from to)
  pub few : count ≤ CLOSE

-- Event s is marked, where the marks are those of the events from `from` on.
unfoldable pub is_marked : List ℕ → ℕ → ℕ → Bool
is_marked marks from s = eqb (get_or marks (s - from) 0) 1

-- What is asked to write the marked events up to `to` to the cells from `at` up to `end`.
pub record Writable (marks : List ℕ) (from to : ℕ) (earlier : List ℕ) (at end : ℕ) : Type 0 where
  pub room_marks : to ≤ from + length marks
  pub bits : (s : ℕ) → from ≤ s → s < to → get_or marks (s - from) 0 ≤ 1
  pub few : to ≤ MAX_EVENTS
  pub all : end ≡ at + length (chosen (is_marked marks from) from to)
  pub room : end ≤ length earlier

-- For each location a position from which on no access of it stands before event t.
abbrev pub SEEN : ℕ
SEEN = 2048

pub record Seen (kinds operands : List ℕ) (t : ℕ) (c : List ℕ) : Type 0 where
  pub within : (l : ℕ) → l < LOCATIONS → get_or c (SEEN + l) 0 ≤ t
  pub none_since : (l p : ℕ) → l < LOCATIONS → get_or c (SEEN + l) 0 ≤ p → p < t → is_access (get_or kinds p 0) ≡ true → get_or operands p 0 ≢ l

-- A list stored in two slices from cell `at` on; where it is not to be written, they are left.
abbrev pub stored : ℕ → List Pair → Slices → Slices
stored at list b = slices (sets b.earlier at (map (λ p. p.s) list)) (sets b.later at (map (λ p. p.t) list))

unfoldable pub written : Bool → ℕ → List Pair → Slices → Slices
written true at list b = stored at list b
written false at list b = b

-- There is room for this many pairs, where they are to be written.
pub record Fits (write : Bool) (k : ℕ) (b : Slices) : Type 0 where
  pub earlier : write ≡ true → k ≤ length b.earlier
  pub later : write ≡ true → k ≤ length b.later

-- The pairs of t, by the numbers in the events' cells.
abbrev pub close_in : List ℕ → List ℕ → List ℕ → ℕ → List Pair
close_in kinds operands c t = pairs_at (race_by kinds operands (number_in c)) t

-- What is asked of event t, where `count` pairs come before its own.
pub record Visitable (kinds operands c : List ℕ) (write : Bool) (b : Slices) (count t : ℕ) : Type 0 where
  pub inside : t < length kinds
  pub of_operands : length operands ≡ length kinds
  pub few : length kinds ≤ MAX_EVENTS
  pub room : NUMBER + length kinds ≤ length c
  pub location : is_access (get_or kinds t 0) ≡ true → get_or operands t 0 < LOCATIONS
  pub seen : Seen kinds operands t c
  pub small : count ≤ CLOSE * t
  pub fits : Fits write (count + length (close_in kinds operands c t)) b

-- What is left where t is an access that races: its pairs behind those before them.
abbrev pub Taken : List ℕ → List ℕ → List ℕ → Bool → Slices → Slices → ℕ → ℕ → ℕ → Type 0
Taken kinds operands c write b b' count next t =
    (next ≡ count + length (close_in kinds operands c t)) × (b' ≡ written write count (close_in kinds operands c t) b)

-- One event. An access is tested by the tables of `scan`, and kept in them and in SEEN.
pub record VisitSays (kinds operands entry exit : List ℕ) (write : Bool) (b b' : Slices) (count next t : ℕ) : Type 0 where
  pub move : is_access (get_or kinds t 0) ≡ false → (exit ≡ entry) × (next ≡ count) × (b' ≡ b)
  pub access :
      is_access (get_or kinds t 0) ≡ true
      → (kept : List ℕ) × (races : Bool)
      × RaceSays entry kept (get_or kinds t 0) (get_or operands t 0) (number_in entry t) races
      × (exit ≡ set kept (SEEN + get_or operands t 0) (t + 1))
      × (races ≡ true → Taken kinds operands entry write b b' count next t)
      × (races ≡ false → (next ≡ count) × (b' ≡ b))

-- ---- a pass over the trace

-- Past the cells of SEEN and of the two tables of `scan`.
abbrev pub TABLES : ℕ
TABLES = 3072

-- What the list asks: the numbers stand in the segments' cells;
pub record Listable (kinds operands c : List ℕ) (from : ℕ) : Type 0 where
  pub few : length kinds ≤ MAX_EVENTS
  pub of_operands : length operands ≡ length kinds
  pub numbered : Numbered kinds operands c from (length kinds)
  pub room : NUMBER + length kinds ≤ length c

-- and a pass, in the events' own too.
pub record Ready (kinds operands c : List ℕ) (from : ℕ) : Type 0 where
  pub listable : Listable kinds operands c from
  pub spread : (p : ℕ) → p < length kinds → number_in c p ≡ own_number kinds c p

-- A pass begins at event r, the first access that races, or past the last event: of no location anything is known but that r is not past it.
pub record Begun (kinds operands entry start : List ℕ) (r : ℕ) : Type 0 where
  pub beyond : SameFrom TABLES entry start
  pub first : FirstRace kinds operands (own_number kinds entry) (length kinds) r
  pub tables : Tables kinds operands (own_number kinds entry) r start
  pub seen : (l : ℕ) → l < LOCATIONS → get_or start (SEEN + l) 0 ≡ r

-- The pairs of the events below t, by the numbers of the segments.
abbrev pub racing : List ℕ → List ℕ → List ℕ → ℕ → List Pair
racing kinds operands c t = pairs_below (race_by kinds operands (own_number kinds c)) t

-- A pass: how many pairs there are, which are written or not.
pub record PassSays (kinds operands entry exit : List ℕ) (write : Bool) (b b' : Slices) (count : ℕ) : Type 0 where
  pub beyond : SameFrom TABLES entry exit
  pub counted : count ≡ length (racing kinds operands entry (length kinds))
  pub slices : b' ≡ written write 0 (racing kinds operands entry (length kinds)) b

-- ---- the list

-- By the numbers, whatever the workspace is in the end.
pub record ListSays (kinds operands entry exit : List ℕ) (b b' : Slices) (reply : Reply ℕ) : Type 0 where
  pub rest : Rest (length kinds) entry exit
  pub told :
      (w : List ℕ) → record { answer = reply; slices = b'; workspace = w }
      ≡ (let list = racing kinds operands entry (length kinds) in list_checked b w list (row 20 (too_short b (length list)) (passes (length list))))

-- In the documents' terms.
pub record GatherSays (tr : Trace) (n : ℕ) (entry exit : List ℕ) (b b' : Slices) (reply : Reply ℕ) : Type 0 where
  pub rest : Rest n entry exit
  pub told : (w : List ℕ) → record { answer = reply; slices = b'; workspace = w } ≡ listing b w tr n (line_after halt_operand tr n)
