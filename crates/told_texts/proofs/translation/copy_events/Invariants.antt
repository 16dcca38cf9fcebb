-- `told_texts::translation::copy_events` meets its contract: before each turn the first i events are copied (`Copies`). Assumes nothing.
use Rattle.told_texts.proofs.Copies.{PartCopied}
use Rattle.told_texts.proofs.translation.copy_events.Given as goal

abbrev pub invariant-loop-i : goal.invariant-loop-i
invariant-loop-i l = PartCopied l.from.kinds.now l.initial.kinds l.kinds l.i × PartCopied l.from.tasks.now l.initial.tasks l.tasks l.i × PartCopied l.from.operands.now l.initial.operands l.operands l.i
