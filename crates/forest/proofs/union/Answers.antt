-- `forest::union` meets its contract: the test of the sizes is that of `united_in`. Assumes nothing.
use Prim.Native.Nat.{ℕ}
use mathlib.Core.Path.{◌≡◌}
use mathlib.Core.Bool.{true, false}
use mathlib.Core.List.{List}
use native.Mathlib.Omega.{arith}
use borrow.Author.Tests.{ltb-true, ltb-false}
use Rattle.trace.proofs.Tests.{by_test}
use Rattle.forest.specs.Forest.{hung_in, smaller_in, united_in, Unitable}
use Rattle.forest.proofs.union.Goals as goal

-- The joined task's top stays unless the joiner's tree is not the smaller one, and the joiner's unless it is.
joined_stays : {c exit : List ℕ} {a b : ℕ} → Unitable c a b → exit ≡ hung_in c a b → (smaller_in c a b ≡ false → ⊥) → exit ≡ united_in c a b
unfolding united_in
joined_stays {c} {a = a} {b = b} u e n = by_test (smaller_in c a b) (λ s. rw s e) (λ s. absurd (n s))

joiner_stays : {c exit : List ℕ} {a b : ℕ} → Unitable c a b → exit ≡ hung_in c b a → (smaller_in c a b ≡ true → ⊥) → exit ≡ united_in c a b
unfolding united_in
joiner_stays {c} {a = a} {b = b} u e n = by_test (smaller_in c a b) (λ s. absurd (n s)) (λ s. rw s e)

pub returns-then-cell : goal.returns-then-cell
unfolding smaller_in
returns-then-cell c = joined_stays c.requires c.hang.ensures (λ s. omega (arith, ltb-false))

pub returns : goal.returns
unfolding smaller_in
returns c = joiner_stays c.requires c.hang-2.ensures (λ s. omega (arith, ltb-true))
