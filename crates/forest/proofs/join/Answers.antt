-- `forest::join` meets its contract: the two tops that are found are those of two trees, and these become one. Assumes nothing.
use Rattle.forest.proofs.Cells.{tops_unite, tops_joined}
use Rattle.forest.proofs.join.Goals as goal

pub union-requires : goal.union-requires
union-requires c =
    tops_unite c.requires c.find-joiner.ensures c.find-joined.ensures

pub returns : goal.returns
returns c =
    tops_joined c.requires c.find-joiner.ensures c.find-joined.ensures
    c.union.ensures
