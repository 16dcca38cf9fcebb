-- `Front::source` meets its contract. Assumes nothing.
use borrow.Author.Tests.{eq-eqb, ne_eqb, lt-ltb, le-ltb}
use Rattle.ranks.proofs.Leaves.{case_met, case_passed}
use Rattle.ranks.specs.Lists.{source_in}
use Rattle.ranks.proofs.Front.source.Goals as goal

pub returns-then-kind-eq-JOIN : goal.returns-then-kind-eq-JOIN
unfolding source_in
returns-then-kind-eq-JOIN c = search (case_met, case_passed, eq-eqb, ne_eqb)

pub returns-then-kind-ne-HALT : goal.returns-then-kind-ne-HALT
unfolding source_in
returns-then-kind-ne-HALT c = search (case_met, case_passed, eq-eqb, ne_eqb)

pub returns-then-self-gt1 : goal.returns-then-self-gt1
unfolding source_in
returns-then-self-gt1 c = search (case_met, case_passed, eq-eqb, ne_eqb, lt-ltb)

pub returns : goal.returns
unfolding source_in
returns c = search (case_met, case_passed, eq-eqb, ne_eqb, le-ltb)
