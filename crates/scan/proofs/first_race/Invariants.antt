-- `scan::first_race` meets its contract. The loop's invariant is `Scanning`; what is left of the events falls. Assumes nothing.
use Prim.Native.Nat.{◌-◌}
use Rattle.scan.proofs.Scanning.{Scanning}
use Rattle.scan.proofs.first_race.Given as goal

abbrev pub invariant-loop-t : goal.invariant-loop-t
invariant-loop-t l = Scanning l.trace.kinds.now l.trace.operands.now l.from l.events l.initial.ws l.ws l.current l.number l.quick l.t

abbrev pub decreases-loop-t : goal.decreases-loop-t
decreases-loop-t l = l.events - l.t
