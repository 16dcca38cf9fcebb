-- `pairs::write_earlier` meets its contract: before each turn the marked events up to s are written. Assumes nothing.
use Prim.Native.Nat.{◌-◌}
use Rattle.pairs.specs.Close.{is_marked}
use Rattle.pairs.proofs.Storing.{Writing}
use Rattle.pairs.proofs.write_earlier.Given as goal

abbrev pub invariant-loop-i : goal.invariant-loop-i
invariant-loop-i l = Writing (is_marked l.marks l.from) l.from l.to l.initial.earlier l.at l.end l.earlier l.i l.s

abbrev pub decreases-loop-i : goal.decreases-loop-i
decreases-loop-i l = l.to - l.s
