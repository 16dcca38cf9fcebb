-- `Line::admit` meets its contract: rows 5, 6 and 7, then the row for its kind. Assumes nothing.
use Rattle.line.specs.Steps.{task_in, event_in}
use Rattle.line.proofs.Rows.{rows, kind_met, kind_passed}
use Rattle.line.proofs.Line.admit.Goals as goal

pub returns-then-event-gt-SUM : goal.returns-then-event-gt-SUM
unfolding event_in task_in
returns-then-event-gt-SUM c = search (rows, kind_met)

pub returns-then-self-eq0 : goal.returns-then-self-eq0
unfolding event_in task_in
returns-then-self-eq0 c = search (rows, kind_passed)

pub returns-then-event-running : goal.returns-then-event-running
unfolding event_in task_in
returns-then-event-running c = search (rows, kind_passed)

pub returns : goal.returns
unfolding event_in task_in
returns c = search (rows, kind_passed)
