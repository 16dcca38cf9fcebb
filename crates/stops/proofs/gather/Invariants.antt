-- `stops::gather` meets its contract: before each turn the stops of the first p events are collected, and the marks from p on are as they were.
-- Assumes nothing.
use Rattle.stops.specs.Stops.{Collected, is_marked}
use Rattle.stops.proofs.gather.Given as goal

abbrev pub invariant-loop-p : goal.invariant-loop-p
invariant-loop-p l = Collected (is_marked l.initial.ws) l.p l.initial.ws l.ws l.count
