-- `stops::collect` meets its contract: the events are marked, and the list is made of the marks. Assumes nothing.
use Rattle.stops.proofs.Collecting.{collected}
use Rattle.stops.proofs.collect.Goals as goal

pub returns : goal.returns
returns c = collected _ c.mark.ensures c.gather.ensures
