-- `emit` meets its contract: at each turn some of the plan's events are stored, and the machine goes on to write the others (`Passing`). Assumes nothing.
use Prim.Native.Nat.{◌-◌}
use lib.ListN.{length}
use Rattle.trace.specs.Slices.{slices}
use Rattle.plan_reader.proofs.Passing.{Stage}
use Rattle.plan_reader.proofs.emission.emit.Given as goal

abbrev pub invariant-loop-writer : goal.invariant-loop-writer
invariant-loop-writer l = Stage l.text (slices l.initial.kinds l.initial.tasks l.initial.operands) l.writer l.stack l.count (slices l.kinds l.tasks l.operands)

abbrev pub decreases-loop-writer : goal.decreases-loop-writer
decreases-loop-writer l = length l.text - l.writer.at
