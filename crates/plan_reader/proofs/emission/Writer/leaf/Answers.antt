-- `leaf` meets its contract: the number that stands there is the location. Assumes nothing.
use Rattle.plan_reader.proofs.Stepping.{leaf_done}
use Rattle.plan_reader.proofs.emission.Writer.leaf.Goals as goal

pub returns : goal.returns
returns c = leaf_done _ _ _ _ c.number_at.ensures.read c.number_at.ensures.within _ c.in-Some.is _ c.kind_of.ensures
