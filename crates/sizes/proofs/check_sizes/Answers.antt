-- `sizes::check_sizes` meets its contract. Assumes nothing.
use Rattle.sizes.proofs.Checks.{sizes_unequal_tasks, sizes_unequal_operands, sizes_many, sizes_short, sizes_fit}
use Rattle.sizes.proofs.check_sizes.Goals as goal

pub returns-then-tasks-n : goal.returns-then-tasks-n
returns-then-tasks-n c = search sizes_unequal_tasks

pub returns-then-operands-n : goal.returns-then-operands-n
returns-then-operands-n c = search sizes_unequal_operands

pub returns-then-n-gt-MAX_EVENTS : goal.returns-then-n-gt-MAX_EVENTS
returns-then-n-gt-MAX_EVENTS c = search sizes_many

pub returns-then-ws-n : goal.returns-then-ws-n
returns-then-ws-n c = search sizes_short

pub returns : goal.returns
returns c = search sizes_fit
