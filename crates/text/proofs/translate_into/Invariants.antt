-- `text::translate_into` meets its contract: the loop takes line after line (`Translating`). The measure is what is left of the text.
-- Assumes nothing.
use lib.ListN.{length}
use Rattle.trace.specs.Slices.{slices}
use Rattle.text.specs.Answers.{left_of}
use Rattle.text.proofs.Translating.{Translating}
use Rattle.text.proofs.translate_into.Given as goal

abbrev pub invariant-loop-cursor : goal.invariant-loop-cursor
invariant-loop-cursor l = Translating l.text (slices l.initial.kinds l.initial.tasks l.initial.operands) (slices l.kinds l.tasks l.operands) l.stack l.count (left_of l.cursor) l.number

abbrev pub decreases-loop-cursor : goal.decreases-loop-cursor
decreases-loop-cursor l = length (left_of l.cursor)
