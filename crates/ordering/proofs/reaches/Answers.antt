-- `ordering::reaches` meets its contract: the positions are compared, and then the numbers. Assumes nothing.
use native.Mathlib.Omega.{arith}
use borrow.Author.Tests.{leb-true, le-leb}
use Rattle.ordering.proofs.reaches.Goals as goal

pub returns-then-p-q : goal.returns-then-p-q
returns-then-p-q c = (λ t. (omega arith, omega (arith, leb-true _ _ t)), λ both. le-leb _ _ (omega (arith, both.1)))
