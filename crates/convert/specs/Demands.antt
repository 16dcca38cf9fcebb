-- What the conversion is asked for (document 02, K6), as records that a contract can cite. Assumes nothing.
use Rattle.std.specs.Prelude.{ℕ, suc, ◌<◌, ◌≤◌, ◌≡◌, List, ◌≢◌, length, get_or}
use Rattle.trace.specs.Trace.{Trace, trace_of, HALT}
use Rattle.trace.specs.Line.{Line, passes, fails, halt_operand, halt_operand_before, line_after}
use Rattle.trace.specs.Outcome.{Reply, says, refused, Verdict, sizes, judgement}
use Rattle.trace.specs.Demands.{SizeRefusal, FirstCellsZero, KeepsRules, BreaksFirst}
use Rattle.convert.specs.Conversion.{Done, done}

-- DEMAND 1 of the conversion: of its answer to what was lent, and of what the operands and the workspace hold then.
pub record ConvertDemand1 (kinds tasks operands workspace : List ℕ) (answer : Reply Done) (operands' workspace' : List ℕ) : Type 0 where
  -- "Its only refusals are 1 to 3."
  pub refusals : (number position : ℕ) → answer ≡ refused number position → SizeRefusal 3 number position
  pub size_row : (number : ℕ) → sizes kinds tasks operands workspace ≡ fails number → answer ≡ refused number 0
  pub past_sizes : (n : ℕ) → sizes kinds tasks operands workspace ≡ passes n → answer ≡ says done
  -- A refusal leaves all as it was.
  pub operands_kept : (number position : ℕ) → answer ≡ refused number position → operands' ≡ operands
  pub workspace_kept : (number position : ℕ) → answer ≡ refused number position → workspace' ≡ workspace
  pub length_operands : length operands' ≡ length operands
  pub length_workspace : length workspace' ≡ length workspace
  pub workspace_cleared : answer ≡ says done → FirstCellsZero (length kinds) workspace workspace'

-- The operands o of a trace's n events after the conversion. "Stored traces with 0 are brought over by a conversion that"
pub record HaltsSet (tr : Trace) (n : ℕ) (o : List ℕ) : Type 0 where
  pub all_events : length o ≡ n
  -- "sets the operand of each halt before the first event that breaks a rule (row 12 read as it was before this change),": to the task that resumes;
  pub sets :
      (p : ℕ) (line : Line) → p < n → tr.kind p ≡ HALT → KeepsRules halt_operand_before tr (suc p) → line_after halt_operand_before tr p ≡ passes line
      → get_or o p 0 ≡ halt_operand line
  -- "and changes nothing else": no operand of another event,
  pub others : (p : ℕ) → p < n → tr.kind p ≢ HALT → get_or o p 0 ≡ tr.operand p
  -- and none from the first event that breaks a rule on.
  pub from_break : (q number p : ℕ) → BreaksFirst halt_operand_before tr q number → q ≤ p → p < n → get_or o p 0 ≡ tr.operand p

-- The same of what was lent, past the size checks.
pub record ConvertSets (kinds tasks operands workspace operands' : List ℕ) : Type 0 where
  pub past_sizes : (n : ℕ) → sizes kinds tasks operands workspace ≡ passes n → HaltsSet (trace_of kinds tasks operands) n operands'

-- "What the judge calls clean or a race with the old row 12 and all other rules alike, later ones too, it calls the same, with the same positions, after this
-- conversion." One judgement, whatever it asks, with the one rule and with the other.
pub record SameVerdicts (kinds tasks operands workspace operands' : List ℕ) : Type 0 where
  pub past_sizes :
      (n : ℕ) (v : Verdict) → sizes kinds tasks operands workspace ≡ passes n → judgement halt_operand_before (trace_of kinds tasks operands) n ≡ says v
      → judgement halt_operand (trace_of kinds tasks operands') n ≡ says v
