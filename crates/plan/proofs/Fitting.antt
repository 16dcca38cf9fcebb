-- Row 19: a plan's trace fits into what is lent exactly if the reader's test does not turn it back. Assumes nothing.
use Prim.Native.Nat.{ℕ, ◌+◌, ◌<◌}
use native.Mathlib.Omega.{arith}
use mathlib.Core.Path.{◌≡◌}
use mathlib.Core.Bool.{Bool, false, ◌||◌}
use mathlib.Core.Logic.{◌⊎◌, inl, inr}
use lib.Dec.{ltb}
use lib.ListN.{length}
use Rattle.trace.specs.Trace.{TASKS, MAX_EVENTS}
use Rattle.trace.specs.Slices.{Slices}
use Rattle.trace.proofs.Tests.{either, Tests, tests_fails, tests_false, test_lt, test_or}
use Rattle.plan.specs.Plans.{Plan}
use Rattle.plan.specs.Events.{forks}
use Rattle.plan.specs.Leaves.{events}
use Rattle.plan.specs.Decided.{Fits}
use Rattle.plan.specs.Tracing.{is_too_large}
use Rattle.plan.proofs.EventOrder.{events_length}

abbrev Over : ℕ → ℕ → ℕ → ℕ → ℕ → Type 0
Over e f k t o = (TASKS < 1 + f) ⊎ ((MAX_EVENTS < e) ⊎ ((k < e) ⊎ ((t < e) ⊎ (o < e))))

test_over : (e f k t o : ℕ) → Tests (is_too_large e f k t o) (Over e f k t o)
unfolding is_too_large
test_over e f k t o =
    test_or (ltb TASKS (1 + f)) (ltb MAX_EVENTS e || (ltb k e || (ltb t e || ltb o e))) (test_lt TASKS (1 + f))
    (test_or (ltb MAX_EVENTS e) (ltb k e || (ltb t e || ltb o e)) (test_lt MAX_EVENTS e)
    (test_or (ltb k e) (ltb t e || ltb o e) (test_lt k e)
    (test_or (ltb t e) (ltb o e) (test_lt t e) (test_lt o e))))

module _ (p : Plan) (b : Slices) where
  abbrev pub tested : Bool
  tested = is_too_large (events p) (forks p) (length b.kinds) (length b.tasks) (length b.operands)

  test_fits : Tests tested (Over (events p) (forks p) (length b.kinds) (length b.tasks) (length b.operands))
  test_fits = test_over (events p) (forks p) (length b.kinds) (length b.tasks) (length b.operands)

  pub fits : tested ≡ false → Fits p b
  fits e =
      let l = events_length p 0 1 in
      let never = tests_fails tested test_fits e in
      let a : TASKS < 1 + forks p → ⊥ = λ h. never (inl h) in
      let c : MAX_EVENTS < events p → ⊥ = λ h. never (inr (inl h)) in
      let k : length b.kinds < events p → ⊥ = λ h. never (inr (inr (inl h))) in
      let t : length b.tasks < events p → ⊥ = λ h. never (inr (inr (inr (inl h)))) in
      let o : length b.operands < events p → ⊥ = λ h. never (inr (inr (inr (inr h)))) in
      record {
        tasks = omega arith;
        events = omega arith;
        room = record { kinds = omega arith; tasks = omega arith; operands = omega arith };
      }

  pub within : Fits p b → tested ≡ false
  within f =
      let l = events_length p 0 1 in
      let a = f.tasks in
      let c = f.events in
      let k = f.room.kinds in
      let t = f.room.tasks in
      let o = f.room.operands in
      tests_false tested test_fits (λ over.
      either over (λ h. omega arith) (λ over₁. either over₁ (λ h. omega arith) (λ over₂. either over₂ (λ h. omega arith)
      (λ over₃. either over₃ (λ h. omega arith) (λ h. omega arith)))))
