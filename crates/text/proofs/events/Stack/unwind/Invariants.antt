-- `text::events::Stack::unwind` meets its contract: the loop searches from the top (`ImpliedHalts`). Assumes nothing.
use Rattle.text.proofs.ImpliedHalts.{Searching}
use Rattle.text.proofs.events.Stack.unwind.Given as goal

abbrev pub invariant-loop-place : goal.invariant-loop-place
invariant-loop-place l = Searching l.self.tasks l.task l.self.depth l.place
