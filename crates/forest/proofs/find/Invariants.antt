-- `forest::find` meets its contract: the loop follows the links of the task's chain. The measure is the number of links that are left.
-- Assumes nothing.
use Rattle.trace.specs.Joins.{links_of}
use Rattle.forest.specs.Forest.{parents}
use Rattle.forest.proofs.Climb.{Climbing}
use Rattle.forest.proofs.find.Given as goal

abbrev pub invariant-loop-parent : goal.invariant-loop-parent
invariant-loop-parent l = Climbing l.ws l.task l.at l.links

abbrev pub decreases-loop-parent : goal.decreases-loop-parent
decreases-loop-parent l = links_of (parents l.ws) l.at
