-- `report::orders` meets its contract: the second order is a copy of the first, with the pair stored the other way round. Assumes nothing.
use native.Mathlib.Omega.{arith}
use borrow.Author.Rules.{rules}
use lib.ListN.{length-set}
use Rattle.report.proofs.ReportingOrders.{swapped}
use Rattle.report.proofs.orders.Goals as goal

pub shape_of-second : goal.shape_of-second
shape_of-second c = simp length-set (search rules)

pub returns : goal.returns
returns c =
    let one = c.arrange-at.ensures in
    record { first_after = one.in_first; second_after = swapped _ _ _ (search rules) (search rules) one c.copy.ensures }

pub bounds-second-at-2 : goal.bounds-second-at-2
bounds-second-at-2 c = simp length-set (omega arith)
