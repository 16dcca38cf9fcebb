-- `output::bytes::put_order` meets its contract: the first cell, and the rest. Assumes nothing.
use Rattle.output.proofs.Rendering.{order_put}
use Rattle.output.proofs.bytes.put_order.Goals as goal

pub returns : goal.returns
returns c =
    order_put _ _ _ _ c.min-end.ensures _ _ c.in-Some.ensures.cases.0 _ (rw c.from.ensures at c.put_number-place.ensures) _ c.put_rest.ensures
