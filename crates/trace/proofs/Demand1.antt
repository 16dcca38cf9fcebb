-- DEMAND 1. "The answer to every trace and every set of lent buffers is clean, race with two event positions, or one refusal from the table in document
-- 01 with its position. The ordering call says yes, no or such a refusal. Every call ends. What each answer leaves in the workspace and in both order
-- buffers is fixed there." The last two theorems say it of the outcomes of the judge and of the ordering call, for everything that can be lent. (That
-- every call ends is proved of the code, function by function.) Assumes nothing.
use Prim.Native.Nat.{ℕ, suc, ◌+◌, ◌<◌, ◌≤◌}
use mathlib.Core.Path.{◌≡◌, refl}
use mathlib.Core.List.{List}
use mathlib.Core.Logic.{inl, inr, ◌≢◌}
use native.Mathlib.Omega.{arith}
use lib.ListN.{length, drop, length-append, length-drop}
use Rattle.trace.specs.Trace.{Trace, trace_of, WORKSPACE_CELLS}
use Rattle.trace.specs.Graph.{graph_events}
use Rattle.trace.specs.Line.{Checked, passes, fails, halt_operand}
use Rattle.trace.specs.Outcome.{Reply, says, refused, Verdict, clean, race, judgement, in_d?, schedule, sizes, order_room, cleared, Outcome, first_order, second_order, judge_checked, judge_outcome, OrderingOutcome, ordering_checked, ordering_outcome}
use Rattle.trace.specs.Demands.{SizeRefusal, FirstCellsZero, JudgeDemand1, OrderingDemand1}
use Rattle.trace.proofs.Tests.{either}
use Rattle.trace.proofs.Lists.{length_zeros_drop, get_d_zeros_drop_below, get_d_zeros_drop_beyond}
use Rattle.trace.proofs.Lines.{passes_not_fails}
use Rattle.trace.proofs.Sizes.{Sized, Roomy, sized, sized_first, roomy, sizes_row, order_room_row, refused_not_says}
use Rattle.trace.proofs.Demand2.{demand_2, judgement_rows}
use Rattle.trace.proofs.Demand3.{race_before, race_length}
use Rattle.trace.proofs.OrderingCall.{ordering_demand, ordering_rows}

-- ---- refusals 1 to 4

pub size_refusal : {A : Type 0} (last m number position : ℕ) → (1 ≤ m) × (m ≤ last) → ◌≡◌ {A = Reply A} (refused m 0) (refused number position)
    → SizeRefusal last number position
size_refusal last m number position between e =
    let same : m ≡ number = cc in
    let zero : position ≡ 0 = cc in
    (rw same at between.0, rw same at between.1, zero)

-- ---- the workspace

pub cleared_zero : (n : ℕ) (workspace : List ℕ) → WORKSPACE_CELLS + n ≤ length workspace → FirstCellsZero n workspace (cleared n workspace)
unfolding cleared
cleared_zero n workspace room =
    record {
      room = room;
      one_length = length_zeros_drop (WORKSPACE_CELLS + n) workspace room;
      zeros = get_d_zeros_drop_below (WORKSPACE_CELLS + n) workspace;
      rest = get_d_zeros_drop_beyond (WORKSPACE_CELLS + n) workspace;
    }

-- ---- the order buffers

module _ (tr : Trace) (graph : ℕ) where
  orders_unchanged : (reply : Reply Verdict) (b₁ b₂ : List ℕ) → ((s t : ℕ) → reply ≢ says (race s t))
      → (first_order tr graph reply b₁ ≡ b₁) × (second_order tr graph reply b₂ ≡ b₂)
  unfolding first_order second_order
  orders_unchanged (says clean) b₁ b₂ h = (refl, refl)
  orders_unchanged (says (race s t)) b₁ b₂ h = absurd (h s t refl)
  orders_unchanged (refused number position) b₁ b₂ h = (refl, refl)

  orders_length : (reply : Reply Verdict) (b₁ b₂ : List ℕ)
      → ((s t : ℕ) → reply ≡ says (race s t) → (t < length b₁) × (t < length b₂) × ((a b : ℕ) → length (schedule (in_d? tr graph s t) s t a b) ≡ suc t))
      → (length (first_order tr graph reply b₁) ≡ length b₁) × (length (second_order tr graph reply b₂) ≡ length b₂)
  unfolding first_order second_order
  orders_length (says clean) b₁ b₂ h = (refl, refl)
  orders_length (says (race s t)) b₁ b₂ h =
      let w = h s t refl in
      let h₁ = w.0 in
      let h₂ = w.1 in (
        omega (arith, length-append (schedule (in_d? tr graph s t) s t s t) (drop (suc t) b₁), w.2 s t, length-drop (suc t) b₁),
        omega (arith, length-append (schedule (in_d? tr graph s t) s t t s) (drop (suc t) b₂), w.2 t s, length-drop (suc t) b₂),
      )
  orders_length (refused number position) b₁ b₂ h = (refl, refl)

-- ---- the judge

module _ (kinds tasks operands workspace first second : List ℕ) where
  abbrev out : Outcome
  out = judge_outcome kinds tasks operands workspace first second

  abbrev Said : Outcome → Type 0
  Said o = JudgeDemand1 kinds tasks operands workspace first second o.answer o.workspace o.first o.second

  judge_checked_law : (c : Checked ℕ) → order_room first second (sizes kinds tasks operands workspace) ≡ c
      → ((number : ℕ) → c ≡ fails number → (1 ≤ number) × (number ≤ 4))
      → ((n : ℕ) → c ≡ passes n → Sized kinds tasks operands workspace n × Roomy first second n)
      → Said (judge_checked kinds tasks operands workspace first second c)
  unfolding judge_checked
  judge_checked_law (fails m) checks row size =
      let between = row m refl in
      record {
        race_positions = λ s t e. absurd (refused_not_says refl e);
        refusals = λ number position e. inl (size_refusal 4 m number position between e);
        size_row = λ number e. let same : m ≡ number = cc (checks, e) in cc;
        orders_kept = λ h. (refl, refl);
        length_workspace = refl;
        length_first = refl;
        length_second = refl;
        workspace_kept = λ number position e h. refl;
        workspace_cleared = λ h. absurd (omega (arith, between, h m 0 refl));
      }
  judge_checked_law (passes n) checks row size =
      let tr : Trace = trace_of kinds tasks operands in
      let reply : Reply Verdict = judgement halt_operand tr n in
      let whole : length kinds ≡ n = (size n refl).0.of_kinds in
      let room = (size n refl).0.room in
      let room₁ = (size n refl).1.of_first in
      let room₂ = (size n refl).1.of_second in
      let said = demand_2 halt_operand tr n in
      let lengths =
      orders_length tr (graph_events halt_operand tr n) reply first second
      (λ s t e. let h = (race_before tr n s t e).1 in (omega arith, omega arith, race_length tr n s t e)) in
      record {
        race_positions = λ s t e. rw whole (race_before tr n s t e);
        refusals = λ number position e.
            let rows = judgement_rows halt_operand tr n number position e in
            inr (rows.0, rows.1, rw whole ((said.refused_iff number position).0 e).inside);
        size_row = λ number e. absurd (passes_not_fails checks e);
        orders_kept = orders_unchanged tr (graph_events halt_operand tr n) reply first second;
        length_workspace = (cleared_zero n workspace room).one_length;
        length_first = lengths.0;
        length_second = lengths.1;
        workspace_kept = λ number position e h. absurd (omega (arith, (judgement_rows halt_operand tr n number position e).0));
        workspace_cleared = λ h. rw whole (cleared_zero n workspace room);
      }

  -- DEMAND 1 of the judge's outcome, for everything that can be lent.
  pub judge_demand_1 : JudgeDemand1 kinds tasks operands workspace first second out.answer out.workspace out.first out.second
  unfolding judge_outcome
  judge_demand_1 =
      judge_checked_law (order_room first second (sizes kinds tasks operands workspace)) refl
      (order_room_row kinds tasks operands workspace first second)
      (λ n e. (sized_first kinds tasks operands workspace first second n e, roomy kinds tasks operands workspace first second n e))

-- ---- the ordering call

module _ (kinds tasks operands workspace : List ℕ) (p q : ℕ) where
  abbrev ordering_out : OrderingOutcome
  ordering_out = ordering_outcome kinds tasks operands workspace p q

  abbrev OrderingSaid : OrderingOutcome → Type 0
  OrderingSaid o = OrderingDemand1 kinds tasks operands workspace o.answer o.workspace

  ordering_checked_law : (c : Checked ℕ) → sizes kinds tasks operands workspace ≡ c
      → ((number : ℕ) → c ≡ fails number → (1 ≤ number) × (number ≤ 3))
      → ((n : ℕ) → c ≡ passes n → Sized kinds tasks operands workspace n)
      → OrderingSaid (ordering_checked kinds tasks operands workspace p q c)
  unfolding ordering_checked
  ordering_checked_law (fails m) checks row size =
      let between = row m refl in
      record {
        refusals = λ number position e. inl (size_refusal 3 m number position between e);
        size_row = λ number e. let same : m ≡ number = cc (checks, e) in cc;
        length_workspace = refl;
        workspace_kept = λ number position e h. refl;
        workspace_cleared = λ h. absurd (omega (arith, between, h m 0 refl));
      }
  ordering_checked_law (passes n) checks row size =
      let whole : length kinds ≡ n = (size n refl).of_kinds in
      let room = (size n refl).room in
      let tr : Trace = trace_of kinds tasks operands in
      let said = ordering_demand tr n p q in
      record {
        refusals = λ number position e.
            either (ordering_rows tr n p q number position e)
            (λ rows. inr (inl (rows.0, rows.1, rw whole ((said.refused_iff number position rows.1).0 e).0)))
            (λ last. inr (inr last));
        size_row = λ number e. absurd (passes_not_fails checks e);
        length_workspace = (cleared_zero n workspace room).one_length;
        workspace_kept = λ number position e h.
            absurd (either (ordering_rows tr n p q number position e) (λ rows. omega (arith, rows.0)) (λ last. omega (arith, last.0)));
        workspace_cleared = λ h. rw whole (cleared_zero n workspace room);
      }

  -- DEMAND 1 of the ordering call's outcome, for everything that can be lent.
  pub ordering_demand_1 : OrderingDemand1 kinds tasks operands workspace ordering_out.answer ordering_out.workspace
  unfolding ordering_outcome
  ordering_demand_1 =
      ordering_checked_law (sizes kinds tasks operands workspace) refl (sizes_row kinds tasks operands workspace)
      (λ n e. sized kinds tasks operands workspace n e)
