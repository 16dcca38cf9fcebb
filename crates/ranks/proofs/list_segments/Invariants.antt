-- `ranks::list_segments` meets its contract: before each turn the cells are those before the event that follows the stops that were taken. Assumes nothing.
use lib.ListN.{length}
use Rattle.trace.specs.Held.{held_trace}
use Rattle.ranks.proofs.Listing.{Listing}
use Rattle.ranks.proofs.list_segments.Given as goal

abbrev pub invariant-loop-k : goal.invariant-loop-k
invariant-loop-k l = Listing (held_trace l.trace) (length l.trace.kinds.now) l.initial.ws l.ws l.front.line l.front.segment l.k
