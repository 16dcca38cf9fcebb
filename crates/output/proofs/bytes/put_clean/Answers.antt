-- `output::bytes::put_clean` meets its contract: a line of one number. Assumes nothing.
use Rattle.output.proofs.Rendering.{one_number}
use Rattle.output.proofs.bytes.put_clean.Goals as goal

pub returns : goal.returns
returns c = search one_number
