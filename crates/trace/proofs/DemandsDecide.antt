-- THE DEMANDS DECIDE. An answer, a workspace and two order buffers that meet demands 1 to 3, and a number of links that is what K2 says, are those of the judge's
-- outcome, for everything that can be lent (`judge_decided`); and likewise of the ordering call (`ordering_decided`). So whoever believes the demands need not believe the outcome, but for the
-- size checks, which both cite; and a field that decides cannot be weakened. (Some of the owner's sentences follow from the others, as that on clean traces
-- follows from demand 2.) Assumes nothing.
use Prim.Native.Nat.{ℕ, suc, ◌+◌, ◌<◌}
use mathlib.Core.Path.{◌≡◌, refl, sym, ◌∙◌}
use mathlib.Core.Bool.{Bool, true, false}
use mathlib.Core.List.{List, ◌++◌}
use native.Mathlib.Omega.{arith}
use lib.ListN.{length, take, drop, take-append-drop}
use lib.Seq.{ext_get_or}
use Rattle.trace.specs.Trace.{Trace, trace_of, WORKSPACE_CELLS}
use Rattle.trace.specs.Graph.{graph_events}
use Rattle.trace.specs.Line.{Checked, passes, fails, halt_operand, line_after}
use Rattle.trace.specs.Outcome.{Reply, says, refused, Verdict, clean, race, judgement, in_d?, schedule, sizes, order_room, cleared, looked_at, links_beside, Outcome, first_order, second_order, judge_checked, judge_outcome, ordering, OrderingOutcome, ordering_checked, ordering_outcome}
use Rattle.trace.specs.Demands.{FirstCellsZero, JudgeDemand1, OrderingDemand1, Demand2, JudgeDemand2, OrderingDemand, OrderingCallDemand, InPositionOrder, Scheduled, JudgeDemand3, JudgeLinks}
use Rattle.trace.proofs.Tests.{either, lt_or_le}
use Rattle.trace.proofs.Lists.{rising_same, length_zeros_drop, get_d_zeros_drop_below, get_d_zeros_drop_beyond}
use Rattle.trace.proofs.Lines.{by_check}
use Rattle.trace.proofs.Sizes.{sized, sized_first, sizes_row, order_room_row, refused_not_says}
use Rattle.trace.proofs.Demand2.{demand_2, judgement_rows}
use Rattle.trace.proofs.Demand3.{race_scheduled}
use Rattle.trace.proofs.OrderingCall.{ordering_demand, ordering_rows}
use Rattle.trace.proofs.Chains.{most_decided}

-- ---- the answer

module _ (tr : Trace) (n : ℕ) where
  answer_decided : (answer : Reply Verdict) → Demand2 halt_operand tr n answer → answer ≡ judgement halt_operand tr n
  answer_decided answer d = is (judgement halt_operand tr n) refl
    where
      is : (reply : Reply Verdict) → judgement halt_operand tr n ≡ reply → answer ≡ reply
      is (says clean) e = d.clean_iff.1 ((demand_2 halt_operand tr n).clean_iff.0 e)
      is (says (race s t)) e = (d.race_iff s t).1 (((demand_2 halt_operand tr n).race_iff s t).0 e)
      is (refused number p) e = (d.refused_iff number p).1 (((demand_2 halt_operand tr n).refused_iff number p).0 e)

module _ (tr : Trace) (n p q : ℕ) where
  ordering_answer_decided : (answer : Reply Bool) → OrderingDemand tr n p q answer → answer ≡ ordering tr n p q (line_after halt_operand tr n)
  ordering_answer_decided answer d = is (ordering tr n p q (line_after halt_operand tr n)) refl
    where
      is : (reply : Reply Bool) → ordering tr n p q (line_after halt_operand tr n) ≡ reply → answer ≡ reply
      is (says true) e = d.yes_iff.1 ((ordering_demand tr n p q).yes_iff.0 e)
      is (says false) e = d.no_iff.1 ((ordering_demand tr n p q).no_iff.0 e)
      is (refused number k) e =
          either (ordering_rows tr n p q number k e)
          (λ rows. (d.refused_iff number k rows.1).1 (((ordering_demand tr n p q).refused_iff number k rows.1).0 e))
          (λ last.
          let same : refused number k ≡ refused 13 0 = cc (last.0, last.1) in
          d.beyond_iff.1 ((ordering_demand tr n p q).beyond_iff.0 (e ∙ same)) ∙ sym same)

-- ---- the workspace

workspace_decided : (n : ℕ) (before after : List ℕ) → FirstCellsZero n before after → after ≡ cleared n before
unfolding cleared
workspace_decided n before after z =
    let m = WORKSPACE_CELLS + n in
    ext_get_or 0 after (cleared n before) (z.one_length ∙ sym (length_zeros_drop m before z.room))
    (λ i h.
    either (lt_or_le i m) (λ l. z.zeros i l ∙ sym (get_d_zeros_drop_below m before i l))
    (λ l. z.rest i l ∙ sym (get_d_zeros_drop_beyond m before i l)))

-- ---- the order buffers

in_order_decided : (t : ℕ) (P : ℕ → Type 0) (xs ys : List ℕ) → InPositionOrder t P xs → InPositionOrder t P ys → xs ≡ ys
in_order_decided t P xs ys x y =
    rising_same xs ys x.rising y.rising (λ p. (λ h. (y.entries p).1 ((x.entries p).0 h), λ h. (x.entries p).1 ((y.entries p).0 h)))

schedule_decided : (tr : Trace) (graph s t a b : ℕ) (xs ys : List ℕ) → Scheduled tr graph s t a b xs → Scheduled tr graph s t a b ys → xs ≡ ys
schedule_decided tr graph s t a b xs ys x y =
    let D : x.earlier ≡ y.earlier = in_order_decided t _ x.earlier y.earlier x.all_D y.all_D in
    let others : x.later ≡ y.later = in_order_decided t _ x.later y.later x.all_other y.all_other in
    x.listed ∙ cc (D, others) ∙ sym y.listed

-- ---- the judge

module _ (kinds tasks operands workspace first second : List ℕ) (answer : Reply Verdict) (workspace' first' second' : List ℕ)
    (one : JudgeDemand1 kinds tasks operands workspace first second answer workspace' first' second')
    (two : JudgeDemand2 kinds tasks operands workspace first second answer)
    (three : JudgeDemand3 kinds tasks operands answer first second first' second')
    (links : ℕ) (chains : JudgeLinks kinds tasks operands answer links) where
  abbrev tr : Trace
  tr = trace_of kinds tasks operands

  abbrev checks : Checked ℕ
  checks = order_room first second (sizes kinds tasks operands workspace)

  abbrev found : Outcome
  found = record { answer = answer; links = links; workspace = workspace'; first = first'; second = second' }

  -- Past the size checks the buffers hold what the answer says.
  buffers_decided : (n : ℕ) → length kinds ≡ n → (reply : Reply Verdict) → answer ≡ reply → judgement halt_operand tr n ≡ reply
      → (first' ≡ first_order tr (graph_events halt_operand tr n) reply first) × (second' ≡ second_order tr (graph_events halt_operand tr n) reply second)
  unfolding first_order second_order
  buffers_decided n whole (says clean) e f = one.orders_kept (λ s t g. let z : ◌≡◌ {A = ℕ} 0 1 = cc (e, g) in omega arith)
  buffers_decided n whole (refused number p) e f = one.orders_kept (λ s t g. refused_not_says e g)
  buffers_decided n whole (says (race s t)) e f = (
    buffer_decided s t first' first (rw whole at (three.holds₁ s t e)) (race_scheduled tr n s t f s t) (three.unchanged₁ s t e),
    buffer_decided t s second' second (rw whole at (three.holds₂ s t e)) (race_scheduled tr n s t f t s) (three.unchanged₂ s t e),
  )
    where
      buffer_decided : (a b : ℕ) (after before : List ℕ) → Scheduled tr (graph_events halt_operand tr n) s t a b (take (suc t) after)
          → Scheduled tr (graph_events halt_operand tr n) s t a b (schedule (in_d? tr (graph_events halt_operand tr n) s t) s t a b) → drop (suc t) after ≡ drop (suc t) before
          → after ≡ schedule (in_d? tr (graph_events halt_operand tr n) s t) s t a b ++ drop (suc t) before
      buffer_decided a b after before held listed rest =
          sym (take-append-drop (suc t) after) ∙ cc (schedule_decided tr (graph_events halt_operand tr n) s t a b _ _ held listed, rest)

  -- The number of links is that of the answer.
  links_decided : (n : ℕ) → length kinds ≡ n → (reply : Reply Verdict) → answer ≡ reply → links ≡ links_beside tr n reply
  unfolding links_beside
  links_decided n whole (says v) e =
      let looked : looked_at (length kinds) answer ≡ looked_at n (says v) = rw (whole, e) in
      rw looked at (most_decided (chains.bound (looked_at (length kinds) answer) (omega arith)) (chains.with_verdict v e))
  links_decided n whole (refused number position) e = chains.with_refusal number position e

  decided_fails : (number : ℕ) → checks ≡ fails number → found ≡ judge_checked kinds tasks operands workspace first second (fails number)
  unfolding judge_checked
  decided_fails number e =
      let a : answer ≡ refused number 0 = one.size_row number e in
      let row = order_room_row kinds tasks operands workspace first second number e in
      let w : workspace' ≡ workspace = one.workspace_kept number 0 a row.1 in
      let orders = one.orders_kept (λ s t g. refused_not_says a g) in
      cc (a, w, orders.0, orders.1, chains.with_refusal number 0 a)

  decided_passes : (n : ℕ) → checks ≡ passes n → found ≡ judge_checked kinds tasks operands workspace first second (passes n)
  unfolding judge_checked
  decided_passes n e =
      let whole : length kinds ≡ n = (sized_first kinds tasks operands workspace first second n e).of_kinds in
      let a : answer ≡ judgement halt_operand tr n = answer_decided tr n answer (two.past_sizes n e) in
      let zero = one.workspace_cleared (λ number p f. let rows = (judgement_rows halt_operand tr n number p (sym a ∙ f)).0 in omega arith) in
      let w : workspace' ≡ cleared n workspace = workspace_decided n workspace workspace' (rw whole at zero) in
      let orders = buffers_decided n whole (judgement halt_operand tr n) a refl in
      let said : links ≡ links_beside tr n (judgement halt_operand tr n) = links_decided n whole (judgement halt_operand tr n) a in
      cc (a, said, w, orders.0, orders.1)

  -- DEMANDS 1 TO 3 AND K2 DECIDE what the judge answers and leaves in every lent buffer.
  pub judge_decided : found ≡ judge_outcome kinds tasks operands workspace first second
  unfolding judge_outcome
  judge_decided = by_check checks (λ n e. rw e (decided_passes n e)) (λ number e. rw e (decided_fails number e))

-- ---- the ordering call

module _ (kinds tasks operands workspace : List ℕ) (p q : ℕ) (answer : Reply Bool) (workspace' : List ℕ)
    (one : OrderingDemand1 kinds tasks operands workspace answer workspace')
    (reach : OrderingCallDemand kinds tasks operands workspace p q answer) where
  abbrev ordering_checks : Checked ℕ
  ordering_checks = sizes kinds tasks operands workspace

  abbrev ordering_found : OrderingOutcome
  ordering_found = record { answer = answer; workspace = workspace' }

  ordering_fails : (number : ℕ) → ordering_checks ≡ fails number → ordering_found ≡ ordering_checked kinds tasks operands workspace p q (fails number)
  unfolding ordering_checked
  ordering_fails number e =
      let a : answer ≡ refused number 0 = one.size_row number e in
      let row = sizes_row kinds tasks operands workspace number e in
      cc (a, one.workspace_kept number 0 a row.1)

  ordering_passes : (n : ℕ) → ordering_checks ≡ passes n → ordering_found ≡ ordering_checked kinds tasks operands workspace p q (passes n)
  unfolding ordering_checked
  ordering_passes n e =
      let tr : Trace = trace_of kinds tasks operands in
      let whole : length kinds ≡ n = (sized kinds tasks operands workspace n e).of_kinds in
      let a = ordering_answer_decided tr n p q answer (reach.past_sizes n e) in
      let past : (number k : ℕ) → answer ≡ refused number k → 3 < number =
      λ number k f. either (ordering_rows tr n p q number k (sym a ∙ f)) (λ rows. let low = rows.0 in omega arith) (λ last. omega (arith, last.0)) in
      cc (a, workspace_decided n workspace workspace' (rw whole at (one.workspace_cleared past)))

  -- DEMAND 1 AND WHAT THE ANSWER MEANS DECIDE what the ordering call answers and leaves in the workspace.
  pub ordering_decided : ordering_found ≡ ordering_outcome kinds tasks operands workspace p q
  unfolding ordering_outcome
  ordering_decided = by_check ordering_checks (λ n e. rw e (ordering_passes n e)) (λ number e. rw e (ordering_fails number e))
