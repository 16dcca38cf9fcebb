-- Stops: the events that must be held to the line rules, and the list of them in cells. Assumes nothing.
use Rattle.std.specs.Prelude.{ℕ, zero, suc, ◌+◌, ◌-◌, ◌<◌, ◌≤◌, ◌≡◌, Bool, true, cond, not, ◌&&◌, List, ◌⊎◌, eqb, ltb, length, get_or}
use Rattle.trace.specs.Trace.{Trace, is_access, LOCATIONS}
use Rattle.cells.specs.Cells.{NUMBER, number_in}

-- Whether event p + 1 is passed over: it and event p are accesses of one task, and its location is below 1,024.
unfoldable pub is_quiet_after : Trace → ℕ → Bool
is_quiet_after tr p =
    ((is_access (tr.kind p) && is_access (tr.kind (suc p))) && eqb (tr.task (suc p)) (tr.task p)) && ltb (tr.operand (suc p)) LOCATIONS

-- All other events are stops.
unfoldable pub is_stop : Trace → ℕ → Bool
is_stop tr zero = true
is_stop tr (suc p) = not (is_quiet_after tr p)

-- 1 where event p is a stop, else 0. Here and below `stop` says which events are stops.
abbrev pub mark_of : (ℕ → Bool) → ℕ → ℕ
mark_of stop p = cond (stop p) 1 0

-- The same by the slices, where it is known whether event p, which is not the first, and the event before it are accesses.
abbrev pub stop_mark : Bool → List ℕ → List ℕ → ℕ → ℕ
stop_mark accesses tasks operands p =
    cond (not ((accesses && eqb (get_or tasks p 0) (get_or tasks (p - 1) 0)) && ltb (get_or operands p 0) LOCATIONS)) 1 0

-- How many of the first n events are stops.
unfoldable pub stops_before : (ℕ → Bool) → ℕ → ℕ
stops_before stop zero = 0
stops_before stop (suc n) = stops_before stop n + mark_of stop n

-- The cells from NUMBER on hold the positions of the stops among the first n events, in their order. What the rest of these n cells hold is not said; no
-- other cell has changed.
pub record Collected (stop : ℕ → Bool) (n : ℕ) (entry exit : List ℕ) (count : ℕ) : Type 0 where
  pub counted : count ≡ stops_before stop n
  pub table : (p : ℕ) → p < n → stop p ≡ true → number_in exit (stops_before stop p) ≡ p
  pub long : length exit ≡ length entry
  pub same : (i : ℕ) → (i < NUMBER) ⊎ (NUMBER + n ≤ i) → get_or exit i 0 ≡ get_or entry i 0

-- From NUMBER on stand the positions of the stops among the n events of a trace, `count` in all.
pub record StopsIn (tr : Trace) (n : ℕ) (c : List ℕ) (count : ℕ) : Type 0 where
  pub counted : count ≡ stops_before (is_stop tr) n
  pub table : (p : ℕ) → p < n → is_stop tr p ≡ true → number_in c (stops_before (is_stop tr) p) ≡ p

-- The first n events are marked, each by 0 or 1.
abbrev pub Marks : ℕ → List ℕ → Type 0
Marks n c = (p : ℕ) → p < n → number_in c p ≤ 1

-- Whether event p is marked as a stop.
abbrev pub is_marked : List ℕ → ℕ → Bool
is_marked c p = eqb (number_in c p) 1
