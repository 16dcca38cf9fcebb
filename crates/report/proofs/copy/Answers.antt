-- `report::copy` meets its contract: before each turn the first i cells are copied. Assumes nothing.
use mathlib.Core.Path.{◌≡◌, refl, ◌∙◌}
use native.Mathlib.Omega.{arith}
use lib.ListN.{length-set}
use Rattle.report.proofs.ReportingStores.{copied_more}
use Rattle.report.proofs.copy.Goals as goal

pub loop-i-preserved : goal.loop-i-preserved
loop-i-preserved c =
    let inv = c.loop-i.invariant in (
      copied_more _ _ _ _ _ (omega arith) inv.0,
      length-set c.loop-i.to _ _ ∙ inv.1,
    )

pub loop-i-init : goal.loop-i-init
loop-i-init c = (refl, refl)
