-- The judge's entry point: each answer meets the outcome and with it the demands. Assumes nothing.
use Prim.Native.Nat.{ℕ, ◌+◌}
use Rattle.std.specs.Prelude.{Result}
use mathlib.Core.Path.{◌≡◌, sym, subst}
use mathlib.Core.List.{List}
use lib.ListN.{length}
use Rattle.trace.specs.declared.Refusal.{Refusal}
use Rattle.trace.specs.declared.Verdict.{Verdict}
use Rattle.trace.specs.Trace.{trace_of, WORKSPACE_CELLS}
use Rattle.trace.specs.Line.{passes, fails}
use Rattle.trace.specs.Outcome.{refused, sizes, order_room, Outcome, judge_checked, judge_outcome}
use Rattle.trace.specs.Answers.{judge_reply, judge_links}
use Rattle.trace.specs.Demands.{JudgeDemand1, JudgeDemand2, JudgeDemand3, JudgeLinks}
use Rattle.trace.proofs.Demand1.{judge_demand_1}
use Rattle.trace.proofs.Demand2.{judge_demand_2}
use Rattle.trace.proofs.Demand3.{judge_demand_3}
use Rattle.chains.proofs.Reported.{links_checked, judge_links_law}
use Rattle.cells.specs.Cells.{zeroed}
use Rattle.cells.proofs.Rests.{rest_cleared}
use Rattle.judge.specs.Entry.{judge_gives, Decided}

module _ (kinds tasks operands workspace first second : List ℕ) (r : Result Verdict Refusal) (w a₁ a₂ : List ℕ) where
  -- Past the size checks: the answer, the order buffers, and the workspace cleared.
  examined_gives :
      (n : ℕ) (exit : List ℕ) → Decided (trace_of kinds tasks operands) n (judge_reply r) (judge_links r) workspace exit first a₁ second a₂
      → w ≡ zeroed (WORKSPACE_CELLS + n) exit → judge_gives r w a₁ a₂ ≡ judge_checked kinds tasks operands workspace first second (passes n)
  unfolding judge_checked judge_gives
  examined_gives n exit d e = rw (← d.answer) (cc (d.beside, rest_cleared w d.rest e, d.first, d.second))

  pub examined :
      (exit : List ℕ) → Decided (trace_of kinds tasks operands) (length kinds) (judge_reply r) (judge_links r) workspace exit first a₁ second a₂
      → w ≡ zeroed (WORKSPACE_CELLS + length kinds) exit
      → (judge_gives r w a₁ a₂ ≡ judge_checked kinds tasks operands workspace first second (passes (length kinds)))
      × JudgeLinks kinds tasks operands (judge_reply r) (judge_links r)
  unfolding judge_gives
  examined exit d e =
      let gives = examined_gives (length kinds) exit d e in
      let said = links_checked kinds tasks operands workspace first second (passes (length kinds)) (λ m same. cc same) in
      (gives, subst (λ (o : Outcome). JudgeLinks kinds tasks operands o.answer o.links) (sym gives) said)

  -- What the judge promises.
  abbrev Promised : Type 0
  Promised =
      (judge_gives r w a₁ a₂ ≡ judge_outcome kinds tasks operands workspace first second)
      × (JudgeDemand1 kinds tasks operands workspace first second (judge_reply r) w a₁ a₂
      × (JudgeDemand2 kinds tasks operands workspace first second (judge_reply r)
      × (JudgeDemand3 kinds tasks operands (judge_reply r) first second a₁ a₂ × JudgeLinks kinds tasks operands (judge_reply r) (judge_links r))))

  promised : judge_gives r w a₁ a₂ ≡ judge_outcome kinds tasks operands workspace first second → Promised
  unfolding judge_gives
  promised e =
      let d₁ = judge_demand_1 kinds tasks operands workspace first second in
      let d₂ = judge_demand_2 kinds tasks operands workspace first second in
      let d₃ = judge_demand_3 kinds tasks operands workspace first second in
      let links = judge_links_law kinds tasks operands workspace first second in (
        e,
        (
          subst (λ (o : Outcome). JudgeDemand1 kinds tasks operands workspace first second o.answer o.workspace o.first o.second) (sym e) d₁,
          (
            subst (λ (o : Outcome). JudgeDemand2 kinds tasks operands workspace first second o.answer) (sym e) d₂,
            (
              subst (λ (o : Outcome). JudgeDemand3 kinds tasks operands o.answer first second o.first o.second) (sym e) d₃,
              subst (λ (o : Outcome). JudgeLinks kinds tasks operands o.answer o.links) (sym e) links,
            ),
          ),
        ),
      )

  pub promised_sizes :
      (number : ℕ) → fails number ≡ order_room first second (sizes kinds tasks operands workspace)
      → (judge_reply r ≡ refused number 0) × (judge_links r ≡ 0) → w ≡ workspace → a₁ ≡ first → a₂ ≡ second → Promised
  unfolding judge_outcome judge_checked judge_gives
  promised_sizes number met e kept kept₁ kept₂ = promised (rw (sym met, judge_checked) (cc (e.0, e.1, kept, kept₁, kept₂)))

  pub promised_examined :
      passes (length kinds) ≡ order_room first second (sizes kinds tasks operands workspace)
      → judge_gives r w a₁ a₂ ≡ judge_checked kinds tasks operands workspace first second (passes (length kinds)) → Promised
  unfolding judge_outcome
  promised_examined lent e = promised (rw (sym lent) e)
