-- `too_large` meets its contract. Assumes nothing.
use Rattle.std.proofs.Common.{arith}
use Rattle.std.proofs.lemmas.Bool.Decides.{nat_tests}
use Rattle.plan.specs.Tracing.{is_too_large}
use Rattle.plan_reader.proofs.too_large.Goals as goal

pub returns-then-size : goal.returns-then-size
unfolding is_too_large
returns-then-size c = grind (arith, nat_tests)

pub returns-else-size : goal.returns-else-size
unfolding is_too_large
returns-else-size c = grind (arith, nat_tests)
