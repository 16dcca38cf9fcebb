-- The ordering call's entry point: each answer meets the outcome and with it what is demanded of the call. Assumes nothing.
use Prim.Native.Nat.{ℕ, ◌+◌}
use Rattle.std.specs.Prelude.{Result}
use mathlib.Core.Path.{◌≡◌, sym, subst}
use mathlib.Core.Bool.{Bool}
use mathlib.Core.List.{List}
use lib.ListN.{length}
use Rattle.trace.specs.declared.Refusal.{Refusal}
use Rattle.trace.specs.Trace.{trace_of, WORKSPACE_CELLS}
use Rattle.trace.specs.Line.{passes, fails}
use Rattle.trace.specs.Outcome.{refused, sizes, OrderingOutcome, ordering_checked, ordering_outcome}
use Rattle.trace.specs.Answers.{ordering_reply}
use Rattle.trace.specs.Demands.{OrderingDemand1, OrderingCallDemand}
use Rattle.trace.proofs.Demand1.{ordering_demand_1}
use Rattle.trace.proofs.OrderingCall.{ordering_call_demand}
use Rattle.cells.specs.Cells.{zeroed}
use Rattle.cells.proofs.Rests.{rest_cleared}
use Rattle.ranks.specs.declared.Ranked.{Ranked}
use Rattle.ranks.specs.States.{RankSays}
use Rattle.ordering.specs.Asks.{ordering_gives, AnswerSays}

module _ (kinds tasks operands workspace : List ℕ) (p q : ℕ) (r : Result Bool Refusal) (w : List ℕ) where
  -- Past the size checks: the answer, and the workspace cleared.
  pub asked :
      (n : ℕ) (ranked : Ranked) (exit : List ℕ) → RankSays kinds (trace_of kinds tasks operands) n workspace exit ranked.events ranked.broken
      → AnswerSays kinds p q exit ranked (ordering_reply r) → w ≡ zeroed (WORKSPACE_CELLS + n) exit
      → ordering_gives r w ≡ ordering_checked kinds tasks operands workspace p q (passes n)
  unfolding ordering_checked ordering_gives
  asked n ranked exit says a e = cc (rest_cleared w says.rest e, a.told _ n workspace says)

  -- What the call promises.
  abbrev Promised : Type 0
  Promised =
      (ordering_gives r w ≡ ordering_outcome kinds tasks operands workspace p q)
      × (OrderingDemand1 kinds tasks operands workspace (ordering_reply r) w × OrderingCallDemand kinds tasks operands workspace p q (ordering_reply r))

  promised : ordering_gives r w ≡ ordering_outcome kinds tasks operands workspace p q → Promised
  unfolding ordering_gives
  promised e = (
    e,
    (
      subst (λ (o : OrderingOutcome). OrderingDemand1 kinds tasks operands workspace o.answer o.workspace) (sym e)
          (ordering_demand_1 kinds tasks operands workspace p q),
      subst (λ (o : OrderingOutcome). OrderingCallDemand kinds tasks operands workspace p q o.answer) (sym e)
          (ordering_call_demand kinds tasks operands workspace p q),
    ),
  )

  pub promised_sizes :
      (number : ℕ) → fails number ≡ sizes kinds tasks operands workspace → ordering_reply r ≡ refused number 0 → w ≡ workspace → Promised
  unfolding ordering_outcome ordering_checked ordering_gives
  promised_sizes number met e kept = promised (rw (sym met, ordering_checked) (cc (e, kept)))

  pub promised_asked :
      passes (length kinds) ≡ sizes kinds tasks operands workspace
      → ordering_gives r w ≡ ordering_checked kinds tasks operands workspace p q (passes (length kinds)) → Promised
  unfolding ordering_outcome
  promised_asked sized e = promised (rw (sym sized) e)
