-- `output::bytes::put_pair` meets its contract: a line of two numbers. Assumes nothing.
use Rattle.output.proofs.Rendering.{two_numbers}
use Rattle.output.proofs.bytes.put_pair.Goals as goal

pub returns : goal.returns
returns c = search two_numbers
