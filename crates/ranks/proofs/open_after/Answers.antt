-- `ranks::open_after` meets its contract. Assumes nothing.
use borrow.Author.Rules.{rules}
use Rattle.ranks.proofs.Leaves.{bit_few, next_open}
use Rattle.ranks.proofs.open_after.Goals as goal

pub overflow_add-result : goal.overflow_add-result
overflow_add-result c = let few = bit_few c.is_move.result in search rules

pub returns : goal.returns
returns c = next_open _ _ _ c.is_move.ensures
