-- `stops::gather` meets its contract: before each turn the stops of the first p events are collected, and the marks from p on are as they were.
-- Assumes nothing.
use borrow.Author.Rules.{rules}
use Rattle.stops.proofs.Collecting.{collected_none, collected_more, mark_ahead}
use Rattle.stops.proofs.gather.Goals as goal

pub loop-p-init : goal.loop-p-init
loop-p-init c = collected_none _ _

pub loop-p-preserved : goal.loop-p-preserved
loop-p-preserved c =
    let g = c.loop-p.invariant in collected_more _ g (search rules) (mark_ahead g c.requires.marks (search rules))
