-- `Line::admit_fork` meets its contract: rows 9 and 10. Assumes nothing.
use Rattle.line.specs.Cells.{is_used_in}
use Rattle.line.specs.Steps.{fork_in}
use Rattle.line.proofs.Rows.{rows}
use Rattle.line.proofs.Line.admit_fork.Goals as goal

pub returns-then-child-ge-TASKS : goal.returns-then-child-ge-TASKS
unfolding fork_in is_used_in
returns-then-child-ge-TASKS c = search rows

pub returns-then-cell-ne0 : goal.returns-then-cell-ne0
unfolding fork_in is_used_in
returns-then-cell-ne0 c = search rows

pub returns : goal.returns
unfolding fork_in is_used_in
returns c = search rows
