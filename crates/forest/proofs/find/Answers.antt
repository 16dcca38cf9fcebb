-- `forest::find` meets its contract: the loop follows the links of the task's chain. The measure is the number of links that are left.
-- Assumes nothing.
use native.Mathlib.Omega.{arith}
use Rattle.forest.proofs.Climb.{climb_on, climbed, links_less, links_small}
use Rattle.forest.proofs.find.Goals as goal

pub overflow_add-links : goal.overflow_add-links
overflow_add-links c = omega (arith, links_small c.requires.forest_in.forest c.loop-parent.invariant)

pub loop-parent-smaller : goal.loop-parent-smaller
loop-parent-smaller c = links_less c.requires.forest_in.forest c.loop-parent.invariant c.in-Some.ensures

pub loop-parent-preserved : goal.loop-parent-preserved
loop-parent-preserved c = climb_on c.requires.forest_in.forest c.loop-parent.invariant c.in-Some.ensures

pub returns : goal.returns
returns c = climbed c.requires.forest_in.forest c.loop-parent.invariant c.in_default.ensures
