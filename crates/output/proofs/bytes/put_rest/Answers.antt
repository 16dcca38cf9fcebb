-- `output::bytes::put_rest` meets its contract: the loop puts number after number (`Rendering`). Assumes nothing.
use Rattle.output.proofs.Rendering.{rest_more}
use Rattle.output.proofs.bytes.put_rest.Goals as goal

pub loop-cell-preserved : goal.loop-cell-preserved
loop-cell-preserved c =
    rest_more _ _ _ _ c.loop-cell.invariant c.loop-cell-test.true _ (rw c.from.ensures at c.put_next-place.ensures)
