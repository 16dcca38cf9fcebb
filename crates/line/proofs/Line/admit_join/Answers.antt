-- `Line::admit_join` meets its contract: row 11. Assumes nothing.
use Rattle.line.specs.Steps.{join_in}
use Rattle.line.proofs.Rows.{rows}
use Rattle.line.proofs.Line.admit_join.Goals as goal

pub returns-then-self-eq0 : goal.returns-then-self-eq0
unfolding join_in
returns-then-self-eq0 c = search rows

pub returns-then-nearest-task : goal.returns-then-nearest-task
unfolding join_in
returns-then-nearest-task c = search rows

pub returns : goal.returns
unfolding join_in
returns c = search rows
