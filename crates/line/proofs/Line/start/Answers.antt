-- `line::Line::start` meets its contract. Assumes nothing.
use mathlib.Core.Path.{refl}
use Rattle.line.specs.Cells.{started_in}
use Rattle.line.proofs.Line.start.Goals as goal

pub returns : goal.returns
unfolding started_in
returns c = (refl, cc)
