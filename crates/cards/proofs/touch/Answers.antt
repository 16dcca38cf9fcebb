-- `cards::touch` meets its contract. Assumes nothing.
use borrow.Author.Rules.{rules}
use Rattle.cards.proofs.Leaves.{count_fits, touch_made}
use Rattle.cards.proofs.touch.Goals as goal

pub overflow_add-cell : goal.overflow_add-cell
overflow_add-cell c = let few = count_fits c.requires c.counts_of-counts.ensures.0 c.cell.ensures in search rules

pub returns : goal.returns
returns c =
    touch_made _ _ _ _ _ _ _ _ _ _ _ c.counts_of-counts.ensures.0 c.cell.ensures c.put.ensures c.cell-2.ensures
    c.earlier.ensures c.put-2.ensures c.put-3.ensures
