-- WHAT A PLAN'S TEXT DECIDES IS WHAT THE READER GIVES (`planned_decided`, `decided_planned`): the outcome is decided by the text, and no other is. Assumes nothing.
use Prim.Native.Nat.{ℕ}
use native.Mathlib.Omega.{arith}
use mathlib.Core.Path.{◌≡◌, refl, sym, ap, ◌∙◌}
use mathlib.Core.Bool.{Bool, true, false}
use mathlib.Core.List.{List}
use Rattle.trace.specs.Trace.{Event}
use Rattle.trace.specs.Outcome.{Reply}
use Rattle.trace.specs.Slices.{Slices, Translated, leaving}
use Rattle.trace.proofs.Tests.{by_test}
use Rattle.plan.specs.Plans.{Plan, LEVELS, IsPlan}
use Rattle.plan.specs.Decided.{Decided, accepted, stray, deep, too_large, DecidedBy}
use Rattle.plan.specs.Reading.{Whole, rejected, whole}
use Rattle.plan.specs.Reading.{accepted as read}
use Rattle.plan.specs.Tracing.{fitted, replied, planned}
use Rattle.plan.proofs.Accepts.{accepts_exactly}
use Rattle.plan.proofs.Refuses.{Says, says_plan, says_stray, says_deep, stray_exactly, deep_exactly}
use Rattle.plan.proofs.Refuses.{says as whole_says}
use Rattle.plan.proofs.Fitting.{tested, fits, within}

-- ---- the reply

decided_fitted : (text : List ℕ) (b : Slices) (p : Plan) → IsPlan LEVELS text p → Decided text b (fitted (tested p b) p)
decided_fitted text b p is =
    by_test (tested p b)
    (λ e. rw e (too_large p is (λ f. let g = within p b f in let z : ◌≡◌ {A = Bool} true false = sym e ∙ g in let y : ◌≡◌ {A = ℕ} 0 1 = cc in omega arith)))
    (λ e. rw e (accepted p is (fits p b e)))

replied_decided : (text : List ℕ) (b : Slices) (w : Whole) → Says text w → Decided text b (replied w b)
replied_decided text b (read p) (says_plan is) = decided_fitted text b p is
replied_decided text b (rejected n at) (says_stray s) = stray at s
replied_decided text b (rejected n at) (says_deep s) = deep at s

decided_replied : (text : List ℕ) (b : Slices) {reply : Reply (List Event)} → Decided text b reply → reply ≡ replied (whole text) b
decided_replied text b (accepted p is f) = rw ((accepts_exactly text p).1 is, within p b f)
decided_replied text b (stray at s) = rw ((stray_exactly text at).1 s)
decided_replied text b (deep at s) = rw ((deep_exactly text at).1 s)
decided_replied text b (too_large p is over) =
    by_test (tested p b) (λ e. rw ((accepts_exactly text p).1 is, e)) (λ e. absurd (over (fits p b e)))

-- ---- the outcome

pub planned_decided : (text : List ℕ) (b : Slices) → DecidedBy text b (planned text b)
unfolding planned
planned_decided text b = record { reply = replied (whole text) b; decided = replied_decided text b (whole text) (whole_says text); left = refl }

pub decided_planned : (text : List ℕ) (b : Slices) {o : Translated} → DecidedBy text b o → o ≡ planned text b
unfolding planned
decided_planned text b d = d.left ∙ ap (leaving b) (decided_replied text b d.decided)
