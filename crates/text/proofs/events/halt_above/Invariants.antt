-- `text::events::halt_above` meets its contract: the loop writes the halts, top first (`ImpliedHalts`). Assumes nothing.
use Rattle.trace.specs.Slices.{slices}
use Rattle.text.proofs.ImpliedHalts.{Halting}
use Rattle.text.proofs.events.halt_above.Given as goal

abbrev pub invariant-loop-place : goal.invariant-loop-place
invariant-loop-place l = Halting l.stack.tasks l.base l.stack.depth l.from (slices l.initial.kinds l.initial.tasks l.initial.operands) (slices l.kinds l.tasks l.operands) l.place l.at
