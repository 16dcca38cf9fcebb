-- `Front::push` meets its contract. Assumes nothing.
use borrow.Author.Tests.{eq-eqb, ne_eqb}
use Rattle.ranks.proofs.Leaves.{case_met, case_passed}
use Rattle.ranks.specs.Lists.{pushed_in}
use Rattle.ranks.proofs.Front.push.Goals as goal

pub returns-then-kind-eq-FORK : goal.returns-then-kind-eq-FORK
unfolding pushed_in
returns-then-kind-eq-FORK c = search (case_met, case_passed, eq-eqb, ne_eqb)

pub returns-then-kind-eq-HALT : goal.returns-then-kind-eq-HALT
unfolding pushed_in
returns-then-kind-eq-HALT c = search (case_met, case_passed, eq-eqb, ne_eqb)

pub returns-else-kind-eq-HALT : goal.returns-else-kind-eq-HALT
unfolding pushed_in
returns-else-kind-eq-HALT c = search (case_met, case_passed, eq-eqb, ne_eqb)
