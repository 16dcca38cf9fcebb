-- What is known of an event that is no stop, and the mark of an event by the slices. Assumes nothing.
use Prim.Native.Nat.{ℕ, suc, ◌-◌, ◌<◌}
use mathlib.Core.Path.{◌≡◌, refl, ◌∙◌}
use mathlib.Core.Bool.{Bool, true, false, ◌&&◌}
use mathlib.Core.List.{List}
use native.Mathlib.Numerals.{sub-one}
use native.Mathlib.Omega.{arith}
use lib.ListN.{get_or}
use borrow.Author.Tests.{not-false, eqb-true, ltb-true}
use Rattle.trace.specs.Trace.{Trace, trace_of, is_access, LOCATIONS}
use Rattle.trace.proofs.Tests.{test_self, test_and}
use Rattle.stops.specs.Stops.{is_quiet_after, is_stop, mark_of, stop_mark}

-- Event q + 1 follows event q, an access too, of the same task.
pub record QuietAfter (tr : Trace) (q : ℕ) : Type 0 where
  pub before : is_access (tr.kind q) ≡ true
  pub access : is_access (tr.kind (suc q)) ≡ true
  pub task : tr.task (suc q) ≡ tr.task q
  pub location : tr.operand (suc q) < LOCATIONS

pub stop_zero : (tr : Trace) → is_stop tr 0 ≡ true
unfolding is_stop
stop_zero tr = refl

both : (a b : Bool) → a && b ≡ true → (a ≡ true) × (b ≡ true)
both a b = (test_and a b (test_self a) (test_self b)).0

pub quiet_event : (tr : Trace) (q : ℕ) → is_stop tr (suc q) ≡ false → QuietAfter tr q
unfolding is_stop is_quiet_after
quiet_event tr q e =
    let quiet = both _ _ (not-false (is_quiet_after tr q) e) in
    let one-task = both _ _ quiet.0 in
    let accesses = both _ _ one-task.0 in
    record { before = accesses.0; access = accesses.1; task = eqb-true _ _ one-task.1; location = ltb-true _ _ quiet.1 }

-- The mark that the code stores, by the slices.
pub mark_is :
    (kinds tasks operands : List ℕ) (p r : ℕ) (previous access : Bool) → 0 < p → previous ≡ is_access (get_or kinds (p - 1) 0) → access ≡ is_access (get_or kinds p 0)
    → r ≡ stop_mark (previous && access) tasks operands p → r ≡ mark_of (is_stop (trace_of kinds tasks operands)) p
unfolding is_stop is_quiet_after trace_of
mark_is kinds tasks operands p r previous access some before here stored =
    let e : suc (p - 1) ≡ p = omega arith in
    stored ∙ rw (before, here, ← e, sub-one (suc (p - 1)))
