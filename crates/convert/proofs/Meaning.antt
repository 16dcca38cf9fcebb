-- What the conversion leaves means what document 02, K6, asks for: the operands are set as it says (`converted_set`), and what was clean or a race is
-- so still (`verdicts_kept`). Assumes nothing.
use Prim.Native.Nat.{ℕ, zero, suc, ◌+◌, ◌<◌}
use mathlib.Core.Path.{◌≡◌, refl, sym, ap, ◌∙◌}
use mathlib.Core.List.{List, map}
use native.Mathlib.Omega.{arith}
use lib.ListN.{length, get_or, length-map}
use lib.Seq.{ext_get_or}
use Rattle.trace.specs.Trace.{Trace, trace_of}
use Rattle.trace.specs.Line.{Checked, passes, fails, halt_operand, halt_operand_before}
use Rattle.trace.specs.Graph.{graph_events}
use Rattle.trace.specs.Orders.{count_up, positions}
use Rattle.trace.specs.Outcome.{says, Verdict, sizes, judgement}
use Rattle.trace.proofs.Lists.{length_count_up}
use Rattle.trace.proofs.Lines.{line_more, graph_ge, graph_broken, passes_not_fails}
use Rattle.trace.proofs.Sizes.{sized, sizes_row, refused_not_says}
use Rattle.trace.proofs.Demand1.{cleared_zero, size_refusal}
use Rattle.trace.proofs.SameVerdict.{same_verdict}
use Rattle.convert.specs.Conversion.{operand_at, first_break, converted_operands, ConvertOutcome, convert_checked, convert_outcome}
use Rattle.convert.specs.Demands.{ConvertDemand1, HaltsSet, ConvertSets, SameVerdicts}
use Rattle.convert.specs.States.{SetBefore}
use Rattle.convert.proofs.EachOperand.{set_at, other_at, later_at}

-- ---- the operands, one by one

get_d_mapped : (f : ℕ → ℕ) (k n i : ℕ) → i < n → get_or (map f (count_up k n)) i 0 ≡ f (k + i)
get_d_mapped f k zero i h = absurd (omega arith)
get_d_mapped f k (suc n) zero h = ap f (omega arith)
get_d_mapped f k (suc n) (suc i) h = get_d_mapped f (suc k) n i (omega arith) ∙ ap f (omega arith)

module _ (tr : Trace) (n : ℕ) where
  abbrev stop : ℕ
  stop = first_break tr n

  pub converted_length : length (converted_operands tr n) ≡ n
  unfolding converted_operands
  converted_length = length-map (positions n) (operand_at tr stop) ∙ length_count_up 0 n

  pub converted_at : (p : ℕ) → p < n → get_or (converted_operands tr n) p 0 ≡ operand_at tr stop p
  unfolding converted_operands
  converted_at p h = get_d_mapped (operand_at tr stop) 0 n p h ∙ ap (operand_at tr stop) (omega arith)

  -- THE OPERANDS ARE SET as K6 says.
  pub converted_set : HaltsSet tr n (converted_operands tr n)
  unfolding first_break
  converted_set =
      record {
        all_events = converted_length;
        sets = λ p line h k kept before.
            converted_at p h ∙ set_at tr n p line (graph_ge halt_operand_before tr (suc p) n kept.line h kept.reached) k before;
        others = λ p h k. converted_at p h ∙ other_at tr n p k;
        from_break = λ q number p b l h.
            let broken = line_more halt_operand_before tr q b.line b.kept_before ∙ b.broken in
            let at : graph_events halt_operand_before tr n ≡ q = graph_broken halt_operand_before tr q n number b.line (omega arith) b.kept_before broken in
            converted_at p h ∙ later_at tr n p (omega arith);
      }

-- ---- the verdicts

module _ (kinds tasks operands o : List ℕ) (n : ℕ) where
  abbrev old : Trace
  old = trace_of kinds tasks operands

  abbrev new : Trace
  new = trace_of kinds tasks o

  -- WHAT WAS CLEAN OR A RACE is so still.
  pub verdicts_kept : HaltsSet old n o → (v : Verdict) → judgement halt_operand_before old n ≡ says v → judgement halt_operand new n ≡ says v
  unfolding trace_of
  verdicts_kept s =
      same_verdict halt_operand_before halt_operand old new
      (record { kinds = λ p h. refl; tasks = λ p h. refl; operands = λ p h k. sym (s.others p h k) })
      (λ p h k line next before after. s.sets p line h k (record { line = next; reached = after }) before)

-- ---- what is lent

module _ (kinds tasks operands workspace : List ℕ) where
  abbrev tr : Trace
  tr = trace_of kinds tasks operands

  -- The cells of the loop are the operands of the definition.
  pub set_is_converted : (o : List ℕ) (n : ℕ) → length operands ≡ n → SetBefore kinds tasks operands (first_break tr n) o → o ≡ converted_operands tr n
  set_is_converted o n whole s =
      let long = s.long in
      let all = converted_length tr n in
      ext_get_or 0 o (converted_operands tr n) (omega arith) (λ p h. s.each p ∙ sym (converted_at tr n p (omega arith)))

  abbrev pub Demanded : ConvertOutcome → Type 0
  Demanded out =
      ConvertDemand1 kinds tasks operands workspace out.answer out.operands out.workspace
      × (ConvertSets kinds tasks operands workspace out.operands × SameVerdicts kinds tasks operands workspace out.operands)

  checked : (c : Checked ℕ) → sizes kinds tasks operands workspace ≡ c → Demanded (convert_checked kinds tasks operands workspace c)
  unfolding convert_checked
  checked (fails m) checks =
      let between = sizes_row kinds tasks operands workspace m checks in (
        record {
          refusals = λ number position e. size_refusal 3 m number position between e;
          size_row = λ number e. let same : m ≡ number = cc (checks, e) in cc;
          past_sizes = λ n e. absurd (passes_not_fails e checks);
          operands_kept = λ number position e. refl;
          workspace_kept = λ number position e. refl;
          length_operands = refl;
          length_workspace = refl;
          workspace_cleared = λ e. absurd (refused_not_says refl e);
        },
        (
          record { past_sizes = λ n e. absurd (passes_not_fails e checks) },
          record { past_sizes = λ n v e j. absurd (passes_not_fails e checks) },
        ),
      )
  checked (passes n) checks =
      let size = sized kinds tasks operands workspace n checks in
      let zeros = cleared_zero n workspace size.room in
      let same : (m : ℕ) → sizes kinds tasks operands workspace ≡ passes m → m ≡ n = λ m e. cc (checks, e) in (
        record {
          refusals = λ number position e. absurd (refused_not_says e refl);
          size_row = λ number e. absurd (passes_not_fails checks e);
          past_sizes = λ m e. refl;
          operands_kept = λ number position e. absurd (refused_not_says e refl);
          workspace_kept = λ number position e. absurd (refused_not_says e refl);
          length_operands = converted_length tr n ∙ sym size.of_operands;
          length_workspace = zeros.one_length;
          workspace_cleared = λ e. rw size.of_kinds zeros;
        },
        (
          record { past_sizes = λ m e. rw (same m e) (converted_set tr n) },
          record { past_sizes = λ m v e. rw (same m e) (verdicts_kept kinds tasks operands (converted_operands tr n) n (converted_set tr n) v) },
        ),
      )

  -- WHAT IS DEMANDED of the outcome, for everything that can be lent.
  pub demanded : Demanded (convert_outcome kinds tasks operands workspace)
  unfolding convert_outcome
  demanded = checked (sizes kinds tasks operands workspace) refl
