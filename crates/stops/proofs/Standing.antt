-- The list of the stops in cells: what `collect` leaves is one, and it stands as long as no cell past the tables changes. Assumes nothing.
use Prim.Native.Nat.{ℕ, ◌+◌, ◌<◌}
use mathlib.Core.Path.{◌≡◌, sym, ap, subst, ◌∙◌}
use mathlib.Core.List.{List}
use native.Mathlib.Omega.{arith}
use Rattle.trace.specs.Trace.{Trace}
use Rattle.cells.specs.Cells.{SameBeyond, NUMBER, number_in}
use Rattle.stops.specs.Stops.{is_stop, stops_before, Collected, StopsIn}
use Rattle.stops.proofs.Counting.{NextStop, next_stop, stops_below}

pub stops_in : (tr : Trace) {n count : ℕ} {entry exit : List ℕ} → Collected (is_stop tr) n entry exit count → StopsIn tr n exit count
stops_in tr collected = record { counted = collected.counted; table = collected.table }

pub stops_still : {tr : Trace} {n count : ℕ} {c d : List ℕ} → SameBeyond c d → StopsIn tr n c count → StopsIn tr n d count
stops_still beyond stops =
    record {
      counted = stops.counted;
      table = λ p h e. beyond.same (NUMBER + stops_before (is_stop _) p) (omega arith) ∙ stops.table p h e;
    }

-- What is read as stop k is the next one from a position on that k stops come before.
pub stop_read : {tr : Trace} {n count position k : ℕ} {c : List ℕ} → StopsIn tr n c count → stops_before (is_stop tr) position ≡ k → k < count
    → (i : ℕ) → i ≡ number_in c k → NextStop (is_stop tr) position n i
stop_read {tr} {n} {position = position} {c = c} stops now h i read =
    let all = stops.counted in
    let next = next_stop (is_stop tr) position n (omega arith) in
    let s = next.1 in
    let is : i ≡ next.0 = read ∙ (ap (number_in c) (sym (s.counted ∙ now)) ∙ stops.table next.0 s.below s.stops) in
    subst (NextStop (is_stop tr) position n) (sym is) s

-- There is an event for each stop.
pub stop_inside : {tr : Trace} {n : ℕ} {c : List ℕ} {count k : ℕ} → StopsIn tr n c count → k < count → k < n
stop_inside {tr} {n} stops h = let all = stops.counted in omega (arith, stops_below (is_stop tr) n)
