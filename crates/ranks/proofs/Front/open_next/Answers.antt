-- `Front::open_next` meets its contract. Assumes nothing.
use Rattle.ranks.specs.Lists.{opened_in}
use Rattle.ranks.proofs.Front.open_next.Goals as goal

pub returns : goal.returns
unfolding opened_in
returns c = cc
