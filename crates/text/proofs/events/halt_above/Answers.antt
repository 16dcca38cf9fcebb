-- `text::events::halt_above` meets its contract: the loop writes the halts, top first (`ImpliedHalts`). Assumes nothing.
use Rattle.text.proofs.ImpliedHalts.{halting_more}
use Rattle.text.proofs.events.halt_above.Goals as goal

pub loop-place-preserved : goal.loop-place-preserved
loop-place-preserved c =
    halting_more _ _ _ _ _ _ _ _ c.loop-place.invariant c.loop-place-test.true _ c.halt_operand-operand.ensures _ c.store_event.ensures
