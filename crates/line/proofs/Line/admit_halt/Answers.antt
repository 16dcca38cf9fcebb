-- `Line::admit_halt` meets its contract: row 12. Assumes nothing.
use Rattle.line.proofs.Rows.{halt_met, halt_passed}
use Rattle.line.proofs.Line.admit_halt.Goals as goal

pub returns-then-operand-parent : goal.returns-then-operand-parent
returns-then-operand-parent c = halt_met _ _ _ _ c.resumes-parent.ensures c.if-operand-parent.true

pub returns : goal.returns
returns c = halt_passed _ _ _ _ c.resumes-parent.ensures _ c.if-operand-parent.false c.halt.ensures
