-- OF A PLAN'S TEXT THE MACHINE WRITES THE PLAN'S EVENTS (`plan_runs`, `whole_runs`). Assumes nothing.
use Prim.Native.Nat.{ℕ, ◌+◌, ◌≤◌}
use native.Mathlib.Omega.{arith}
use mathlib.Core.Path.{◌≡◌, refl}
use mathlib.Core.List.{List, [], ◌∷◌, ◌++◌, append-nil, append_assoc}
use lib.ListN.{length}
use Rattle.std.specs.Prelude.{Some, None}
use Rattle.trace.specs.Trace.{Event, TASKS, FORK, JOIN, HALT}
use Rattle.numbers.specs.Decimal.{decimal}
use Rattle.numbers.proofs.Decimal.{first, number_whole}
use Rattle.plan.specs.Plans.{Plan, leaf, pair, print, access_letter, operator_letter, InRange, depth, LEVELS}
use Rattle.plan.specs.Events.{event, kind_of, forks, events_from, events_of}
use Rattle.plan.specs.Reading.{LAST_LOCATION, letter_of}
use Rattle.plan.specs.declared.Operator.TheVariants.{Series, Parallel}
use Rattle.plan.proofs.Spelling.{letter_access, letter_operator}
use Rattle.plan.proofs.Stops.{Ends, leaf_ends, joined}
use Rattle.plan.proofs.Accepts.{ends_other, ends_last, comma_no_digit, close_no_digit}
use Rattle.plan_reader.specs.Machine.{state, frame, step_of, goes, Runs, ended, steps}
use Rattle.plan_reader.specs.declared.emission.Frame.{Frame}

comma_none : letter_of 44 ≡ None
unfolding letter_of
comma_none = refl

close_none : letter_of 41 ≡ None
unfolding letter_of
close_none = refl

-- A plan, whose end is the end of its last byte, and what follows it.
pub plan_runs : (p : Plan) (rest : List ℕ) (x next : ℕ) (fs : List Frame) (es : List Event) → InRange p → Ends p (first rest) → length fs + depth p ≤ LEVELS → next + forks p ≤ TASKS → Runs rest (state x (next + forks p) fs) es
    → Runs (print p ++ rest) (state x next fs) (events_from p x next ++ es)
plan_runs (leaf k v) rest x next fs es h (leaf_ends u) low few r =
    let z : next + 0 ≡ next = omega arith in
    let n = number_whole LAST_LOCATION (omega arith) (omega arith) v rest (omega arith) u in
    let l : length fs ≤ LEVELS = omega arith in
    let e : step_of (access_letter k ∷ (decimal v ++ rest)) (state x next fs) ≡ goes (event (kind_of k) x v ∷ []) rest (state x next fs) = rw (letter_access k, n) in
    steps e (omega arith) l (rw z at r)
plan_runs (pair Series a b) rest x next fs es h e low few r =
    let bytes = print b ++ (41 ∷ rest) in
    let f = frame x None in
    let z : next + forks a + forks b ≡ next + (forks a + forks b) = omega arith in
    let closing : step_of (41 ∷ rest) (state x (next + forks a + forks b) (f ∷ fs)) ≡ goes [] rest (state x (next + forks a + forks b) fs) = rw close_none in
    let c = steps closing (omega arith) (omega arith) (rw (← z) at r) in
    let i = plan_runs b (41 ∷ rest) x (next + forks a) (f ∷ fs) es h.1 (ends_other b 41 close_no_digit) (omega arith) (omega arith) c in
    let middle : step_of (44 ∷ bytes) (state x (next + forks a) (f ∷ fs)) ≡ goes [] bytes (state x (next + forks a) (f ∷ fs)) = rw comma_none in
    let m = steps middle (omega arith) (omega arith) i in
    let j = plan_runs a (44 ∷ bytes) x next (f ∷ fs) (events_from b x (next + forks a) ++ es) h.0 (ends_other a 44 comma_no_digit) (omega arith)
    (omega arith) m in
    let opening : step_of (operator_letter Series ∷ (40 ∷ (print a ++ (44 ∷ bytes)))) (state x next fs)
    ≡ goes [] (print a ++ (44 ∷ bytes)) (state x next (f ∷ fs)) = rw (letter_operator Series) in
    rw (← joined (print a) (print b) rest, append_assoc (events_from a x next) (events_from b x (next + forks a)) es) (steps opening (omega arith) (omega arith) j)
plan_runs (pair Parallel a b) rest x next fs es h e low few r =
    let after = next + 1 + forks a in
    let bytes = print b ++ (41 ∷ rest) in
    let f = frame x (Some next) in
    let z : after + forks b ≡ next + (1 + (forks a + forks b)) = omega arith in
    let closing : step_of (41 ∷ rest) (state x (after + forks b) (f ∷ fs)) ≡ goes (event JOIN x next ∷ []) rest (state x (after + forks b) fs) = rw close_none in
    let i = plan_runs b (41 ∷ rest) x after (f ∷ fs) (event JOIN x next ∷ es) h.1 (ends_other b 41 close_no_digit) (omega arith) (omega arith)
    (steps closing (omega arith) (omega arith) (rw (← z) at r)) in
    let middle : step_of (44 ∷ bytes) (state next after (f ∷ fs)) ≡ goes (event HALT next x ∷ []) bytes (state x after (f ∷ fs)) = rw comma_none in
    let j = plan_runs a (44 ∷ bytes) next (next + 1) (f ∷ fs) (event HALT next x ∷ (events_from b x after ++ (event JOIN x next ∷ es))) h.0
    (ends_other a 44 comma_no_digit)
    (omega arith) (omega arith) (steps middle (omega arith) (omega arith) i) in
    let opening : step_of (operator_letter Parallel ∷ (40 ∷ (print a ++ (44 ∷ bytes)))) (state x next fs)
    ≡ goes (event FORK x next ∷ []) (print a ++ (44 ∷ bytes)) (state next (next + 1) (f ∷ fs)) = rw (letter_operator Parallel) in
    rw (
      ← joined (print a) (print b) rest,
      append_assoc (events_from a next (next + 1)) (event HALT next x ∷ (events_from b x after ++ (event JOIN x next ∷ []))) es,
      append_assoc (events_from b x after) (event JOIN x next ∷ []) es,
    )
    (steps opening (omega arith) (omega arith) j)

-- A whole plan's text.
pub whole_runs : (p : Plan) → InRange p → depth p ≤ LEVELS → 1 + forks p ≤ TASKS → Runs (print p) (state 0 1 []) (events_of p)
whole_runs p h low few = rw (append-nil (print p), append-nil (events_of p)) at (plan_runs p [] 0 1 [] [] h (ends_last p) (omega arith) few ended)
