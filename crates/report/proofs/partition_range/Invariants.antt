-- `report::partition_range` meets its contract: before each turn the events from `from` up to p are parted, and i and j are past them. Assumes nothing.
use Prim.Native.Nat.{◌+◌, ◌-◌}
use mathlib.Core.Path.{◌≡◌}
use Rattle.report.specs.Reports.{reach_in, not_reach_in}
use Rattle.report.proofs.ReportingStores.{Stored}
use Rattle.report.proofs.partition_range.Given as goal

abbrev pub invariant-loop-p : goal.invariant-loop-p
invariant-loop-p l = (l.i + l.j ≡ l.low + l.high + (l.p - l.from))
    × Stored (reach_in l.ws l.e) l.from l.low l.initial.first l.p l.i l.first
    × Stored (not_reach_in l.ws l.e) l.from l.high l.initial.second l.p l.j l.second
