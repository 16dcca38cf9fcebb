-- `ranks::own_segment` meets its contract. Assumes nothing.
use borrow.Author.Tests.{eq-eqb, ne_eqb}
use Rattle.ranks.specs.Lists.{own_in}
use Rattle.ranks.proofs.Leaves.{case_met, case_passed}
use Rattle.ranks.proofs.own_segment.Goals as goal

pub returns-then-kind-ne-JOIN : goal.returns-then-kind-ne-JOIN
unfolding own_in
returns-then-kind-ne-JOIN c = search (case_met, case_passed, eq-eqb, ne_eqb)

pub returns : goal.returns
unfolding own_in
returns c = search (case_met, case_passed, eq-eqb, ne_eqb)
