-- `stops::mark` meets its contract: before each turn the marks of the first p events are filled in. Assumes nothing.
use Prim.Native.Nat.{◌-◌}
use mathlib.Core.Path.{◌≡◌}
use lib.ListN.{get_or}
use Rattle.trace.specs.Trace.{trace_of, is_access}
use Rattle.cells.specs.Cells.{Filled, NUMBER}
use Rattle.stops.specs.Stops.{is_stop, mark_of}
use Rattle.stops.proofs.mark.Given as goal

abbrev pub invariant-loop-p : goal.invariant-loop-p
invariant-loop-p l = (l.previous ≡ is_access (get_or l.trace.kinds.now (l.p - 1) 0)) × Filled NUMBER l.p (mark_of (is_stop (trace_of l.trace.kinds.now l.trace.tasks.now l.trace.operands.now))) l.initial.ws l.ws
