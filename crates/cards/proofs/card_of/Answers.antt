-- `cards::card_of` meets its contract. Assumes nothing.
use Rattle.kinds.specs.Kinds.{index_of}
use Rattle.cards.proofs.Leaves.{card_made}
use Rattle.cards.proofs.card_of.Goals as goal

pub returns : goal.returns
unfolding index_of
returns c = search card_made
