-- `report::arrange` meets its contract: D, the pair and the others are as many as there are events up to t. Assumes nothing.
use native.Mathlib.Omega.{arith}
use borrow.Author.Rules.{rules}
use lib.ListN.{length-set}
use Rattle.report.proofs.ReportingOrders.{arranged}
use Rattle.report.proofs.arrange.Goals as goal

pub copy-requires : goal.copy-requires
copy-requires c = (search rules, simp length-set (omega arith))

pub bounds-first-at-2 : goal.bounds-first-at-2
bounds-first-at-2 c = simp length-set (omega arith)

pub returns : goal.returns
returns c = search arranged
