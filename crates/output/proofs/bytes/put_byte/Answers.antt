-- `output::bytes::put_byte` meets its contract: the byte has room, or is left out. Assumes nothing.
use Rattle.output.proofs.Rendering.{byte_left_out, byte_put}
use Rattle.output.proofs.bytes.put_byte.Goals as goal

pub returns-then-out-at : goal.returns-then-out-at
returns-then-out-at c = search byte_left_out

pub returns : goal.returns
returns c = search byte_put
