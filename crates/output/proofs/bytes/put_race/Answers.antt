-- `output::bytes::put_race` meets its contract: three lines. Assumes nothing.
use Rattle.output.specs.Output.{order_lines}
use Rattle.output.proofs.Rendering.{three_lines}
use Rattle.output.proofs.bytes.put_race.Goals as goal

pub returns : goal.returns
unfolding order_lines
returns c = search three_lines
