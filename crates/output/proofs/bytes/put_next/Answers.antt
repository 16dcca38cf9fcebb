-- `output::bytes::put_next` meets its contract. Assumes nothing.
use Rattle.output.proofs.Rendering.{next_put}
use Rattle.output.proofs.bytes.put_next.Goals as goal

pub returns : goal.returns
returns c = search next_put
