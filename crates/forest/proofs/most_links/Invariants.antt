-- `forest::most_links` meets its contract: the largest of the heights so far, of which the last is the most links that a task has. Assumes nothing.
use mathlib.Core.Path.{◌≡◌}
use Rattle.trace.specs.Search.{largest_below}
use Rattle.forest.specs.Forest.{height}
use Rattle.forest.proofs.most_links.Given as goal

abbrev pub invariant-loop-height : goal.invariant-loop-height
invariant-loop-height l = l.most ≡ largest_below l.height-index (height l.ws)
