-- What the functions of the conversion leave, in the words of the cells. Assumes nothing.
use Rattle.std.specs.Prelude.{ℕ, ◌≡◌, List, length, get_or}
use Rattle.trace.specs.Trace.{trace_of}
use Rattle.cells.specs.Cells.{SameBeyond}
use Rattle.convert.specs.Conversion.{operand_at, first_break}

-- The operands o, where the halts before the position `stop` are set and nothing else is.
pub record SetBefore (kinds tasks operands : List ℕ) (stop : ℕ) (o : List ℕ) : Type 0 where
  pub long : length o ≡ length operands
  pub each : (p : ℕ) → get_or o p 0 ≡ operand_at (trace_of kinds tasks operands) stop p

-- All halts are set that are to be, and no cell past the tables has changed.
pub record HaltsAreSet (kinds tasks operands entry o c : List ℕ) : Type 0 where
  pub set : SetBefore kinds tasks operands (first_break (trace_of kinds tasks operands) (length kinds)) o
  pub beyond : SameBeyond entry c
