-- `text::events::Stack::halt_operand` meets its contract: the task below, where there is one (`ImpliedHalts`). Assumes nothing.
use Rattle.text.proofs.ImpliedHalts.{resumed_none, resumed_below}
use Rattle.text.proofs.events.Stack.halt_operand.Goals as goal

pub returns-then-place-eq0 : goal.returns-then-place-eq0
returns-then-place-eq0 c = search resumed_none

pub returns-else-place-eq0 : goal.returns-else-place-eq0
returns-else-place-eq0 c = search resumed_below
