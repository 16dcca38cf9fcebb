-- `report::partition_range` meets its contract: before each turn the events from `from` up to p are parted, and i and j are past them. Assumes nothing.
use mathlib.Core.Path.{sym, ap, ◌∙◌}
use mathlib.Core.Bool.{not}
use native.Mathlib.Omega.{arith}
use Rattle.report.proofs.ReportingStores.{stored_none, stored_passed, stored_failed, stored_parted}
use Rattle.report.proofs.partition_range.Goals.{then-reaches, else-reaches}
use Rattle.report.proofs.partition_range.Goals as goal

pub loop-p-preserved : goal.loop-p-preserved
loop-p-preserved c =
    let inv = c.loop-p.invariant in
    let told = c.reaches.ensures in
    let low = c.loop-p.auto.p in
    elim c.if-reaches.branch [
      | then-reaches w ↦
          let yes = sym told ∙ w.if-reaches.true in (
            omega arith,
            rw (w.first-is, w.i-is) (stored_passed low inv.1 yes),
            rw (w.second-is, w.j-is) (stored_failed low inv.2 (ap not yes)),
          )
      | else-reaches w ↦
          let no = sym told ∙ w.if-reaches.false in (
            omega arith,
            rw (w.first-is, w.i-is) (stored_failed low inv.1 no),
            rw (w.second-is, w.j-is) (stored_passed low inv.2 (ap not no)),
          )
    ]

pub returns : goal.returns
returns c = let inv = c.loop-p.invariant in stored_parted (omega arith) inv.0 inv.1 inv.2

pub loop-p-init : goal.loop-p-init
loop-p-init c = (omega arith, stored_none, stored_none)
