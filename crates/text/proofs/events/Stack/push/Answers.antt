-- `text::events::Stack::push` meets its contract: a fork's operand lies on top (`StackLaws`). Assumes nothing.
use Rattle.std.proofs.Common.{arith}
use Rattle.text.proofs.StackLaws.{push_fork}
use Rattle.text.proofs.events.Stack.push.Goals as goal

pub returns-in-Fork : goal.returns-in-Fork
returns-in-Fork c = push_fork _ _ _ _ (omega arith) c.in-Fork.is
