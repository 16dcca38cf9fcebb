-- The laws behind `translate`: which outcome each of its returns gives, and that `emit` is called where a plan was read that has room. Assumes nothing.
use Prim.Native.Nat.{ℕ}
use native.Mathlib.Omega.{arith}
use mathlib.Core.Path.{◌≡◌, refl, sym, ◌∙◌}
use mathlib.Core.Bool.{Bool, true, false}
use mathlib.Core.List.{List}
use lib.ListN.{length}
use Rattle.std.specs.Prelude.{Ok, Err}
use Rattle.trace.specs.Slices.{Slices, store_all, Translated, leaving}
use Rattle.trace.specs.Answers.{reply, translated_of}
use Rattle.trace.specs.declared.Refusal.{Refusal}
use Rattle.plan.specs.Plans.{Plan, LEVELS, IsPlan}
use Rattle.plan.specs.Events.{forks, events_of}
use Rattle.plan.specs.Leaves.{events}
use Rattle.plan.specs.Decided.{DecidedBy, TracesPlan}
use Rattle.plan.specs.Reading.{Whole, accepted, rejected, whole}
use Rattle.plan.specs.Tracing.{is_too_large, replied, planned}
use Rattle.plan_reader.specs.Answers.{plan, no_plan, measured_whole}
use Rattle.plan_reader.specs.Machine.{Ready, Emitted}
use Rattle.plan.proofs.Accepts.{accepts_exactly}
use Rattle.plan.proofs.EventOrder.{events_length}
use Rattle.plan.proofs.Tracing.{traces_plan}
use Rattle.plan.proofs.Fitting.{fits}
use Rattle.plan.proofs.Deciding.{planned_decided}

never : {C : Type 0} → ◌≡◌ {A = ℕ} 0 1 → C
never z = absurd (omega arith)

-- ---- the clauses of `translate`

-- Where the outcome is the one that is asked for, it means what the documents say.
pub with_meaning : {text : List ℕ} {b : Slices} {o : Translated} → o ≡ planned text b → (o ≡ planned text b) × (DecidedBy text b o × TracesPlan text o)
with_meaning {text} {b} {o} e =
    let d : DecidedBy text b o = rw e (planned_decided text b) in
    (e, (d, traces_plan text b o d))

-- ---- the outcome

record Accepted (w : Whole) (e f : ℕ) : Type 0 where
  plan_is : Plan
  is : w ≡ accepted plan_is
  events_are : e ≡ events plan_is
  forks_are : f ≡ forks plan_is

accepted_of : (w : Whole) (e f : ℕ) → plan e f ≡ measured_whole w → Accepted w e f
accepted_of (accepted p) e f h = record { plan_is = p; is = refl; events_are = cc; forks_are = cc }
accepted_of (rejected n q) e f h = never cc

rejected_of : (w : Whole) (n q : ℕ) → no_plan n q ≡ measured_whole w → w ≡ rejected n q
rejected_of (accepted p) n q h = never cc
rejected_of (rejected m o) n q h = cc

leaves_plan : (w : Whole) (p : Plan) (b b₁ : Slices) (e : ℕ) → w ≡ accepted p
    → is_too_large (events p) (forks p) (length b.kinds) (length b.tasks) (length b.operands) ≡ false
    → e ≡ length (events_of p) → b₁ ≡ store_all b 0 (events_of p) → translated_of (Ok e) b₁ ≡ leaving b (replied w b)
unfolding reply
leaves_plan w p b b₁ e is fitting counted stored = rw (is, fitting, counted, stored)

module _ (text : List ℕ) (b : Slices) where
  pub plan_refused : (q : Refusal) → no_plan q.number q.position ≡ measured_whole (whole text) → translated_of (Err q) b ≡ planned text b
  unfolding planned reply
  plan_refused q e = rw (rejected_of (whole text) q.number q.position e)

  module _ (e f : ℕ) (measured : plan e f ≡ measured_whole (whole text)) (t : Bool)
      (tested : t ≡ is_too_large e f (length b.kinds) (length b.tasks) (length b.operands)) where
    the_plan : Accepted (whole text) e f
    the_plan = accepted_of (whole text) e f measured

    test_is : t ≡ is_too_large (events the_plan.plan_is) (forks the_plan.plan_is) (length b.kinds) (length b.tasks) (length b.operands)
    test_is = let i = the_plan.events_are in let j = the_plan.forks_are in cc

    pub plan_short : t ≡ true → translated_of (Err (record { number = 19; position = 0 })) b ≡ planned text b
    unfolding planned reply
    plan_short h = let g = sym test_is ∙ h in rw (the_plan.is, g)

    module _ (fitting : t ≡ false) where
      plan_text : IsPlan LEVELS text the_plan.plan_is
      plan_text = (accepts_exactly text the_plan.plan_is).0 the_plan.is

      pub plan_ready : Ready text b
      plan_ready =
          let k = fits the_plan.plan_is b (sym test_is ∙ fitting) in
          record { plan = the_plan.plan_is; is_plan = plan_text; tasks = k.tasks; room = k.room }

      pub plan_done : (b₁ : Slices) → Emitted text b b₁ → translated_of (Ok e) b₁ ≡ planned text b
      unfolding planned
      plan_done b₁ h =
          leaves_plan (whole text) the_plan.plan_is b b₁ e the_plan.is (sym test_is ∙ fitting)
          (the_plan.events_are ∙ sym (events_length the_plan.plan_is 0 1)) (h the_plan.plan_is plan_text)
