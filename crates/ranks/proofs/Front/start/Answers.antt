-- `Front::start` meets its contract. Assumes nothing.
use borrow.Author.Rules.{rules}
use Rattle.ranks.proofs.Listing.{begun}
use Rattle.ranks.proofs.Front.start.Goals as goal

pub returns : goal.returns
returns c = search (rules, begun)
