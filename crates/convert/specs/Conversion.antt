-- The conversion of stored traces (document 02, K6): what it answers and leaves in the operands and in the workspace, as a total function of what is lent.
-- Assumes nothing.
use Rattle.std.specs.Prelude.{ℕ, cond, ◌&&◌, List, map, eqb, ltb, Result, Ok, Err}
use Rattle.trace.specs.Trace.{Trace, trace_of, HALT}
use Rattle.trace.specs.Line.{Line, Checked, passes, fails, halt_operand, halt_operand_before, line_after}
use Rattle.trace.specs.Graph.{graph_events}
use Rattle.trace.specs.Orders.{positions}
use Rattle.trace.specs.Outcome.{Reply, says, refused, sizes, cleared}
use Rattle.trace.specs.declared.Refusal.{Refusal}

-- The operand that a halt gets where this is the line before it: "A halt's operand now names the task that resumes". Where a rule is broken nobody asks.
unfoldable pub named_after : Checked Line → ℕ
named_after (passes line) = halt_operand line
named_after (fails number) = 0

module _ (tr : Trace) where
  -- The operand of event p where the conversion sets halts before the position `stop`, "and changes nothing else".
  unfoldable pub operand_at : ℕ → ℕ → ℕ
  operand_at stop p = cond (ltb p stop && eqb (tr.kind p) HALT) (named_after (line_after halt_operand_before tr p)) (tr.operand p)

  -- "the first event that breaks a rule (row 12 read as it was before this change)": its position, or n where none of n events does.
  unfoldable pub first_break : ℕ → ℕ
  first_break n = graph_events halt_operand_before tr n

  -- "sets the operand of each halt before the first event that breaks a rule"
  unfoldable pub converted_operands : ℕ → List ℕ
  converted_operands n = map (operand_at (first_break n)) (positions n)

-- What the conversion says where it refuses nothing.
pub data Done : Type 0 where
  done : Done

unfoldable pub conversion_reply : Result (Unit {0}) Refusal → Reply Done
conversion_reply (Ok converted) = says done
conversion_reply (Err r) = refused r.number r.position

-- What it answers, and what it leaves in the operands and in the workspace.
pub record ConvertOutcome : Type 0 where
  pub answer : Reply Done
  pub operands : List ℕ
  pub workspace : List ℕ

abbrev pub convert_gives : Result (Unit {0}) Refusal → List ℕ → List ℕ → ConvertOutcome
convert_gives r operands workspace = record { answer = conversion_reply r; operands = operands; workspace = workspace }

module _ (kinds tasks operands workspace : List ℕ) where
  unfoldable pub convert_checked : Checked ℕ → ConvertOutcome
  convert_checked (fails number) = record { answer = refused number 0; operands = operands; workspace = workspace }
  convert_checked (passes n) =
      record { answer = says done; operands = converted_operands (trace_of kinds tasks operands) n; workspace = cleared n workspace }

  -- THE CONVERSION: "Its only refusals are 1 to 3." It treats the workspace as the judge does.
  unfoldable pub convert_outcome : ConvertOutcome
  convert_outcome = convert_checked (sizes kinds tasks operands workspace)
