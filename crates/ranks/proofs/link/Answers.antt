-- `ranks::link` meets its contract. Assumes nothing.
use Rattle.segments.proofs.SegmentCells.{link_in}
use Rattle.ranks.proofs.link.Goals as goal

pub returns : goal.returns
unfolding link_in
returns c = cc
