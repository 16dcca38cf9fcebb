-- `kinds::is_conflict` meets its contract. Assumes nothing.
use Rattle.kinds.proofs.ConflictTable.{entry_right}
use Rattle.kinds.proofs.is_conflict.Goals as goal

pub returns : goal.returns
returns c =
    rw (c.index_of.ensures, c.index_of-2.ensures)
    (entry_right _ _ c.requires.kind_value c.requires.other_value)
