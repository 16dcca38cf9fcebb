-- The letters of a plan: each is read as what it stands for (`letter_access`, `letter_operator`), and a byte that is read as a letter is that letter (`spelt`).
-- Assumes nothing.
use Prim.Native.Nat.{ℕ}
use mathlib.Core.Path.{◌≡◌, refl}
use lib.Dec.{eqb}
use borrow.Author.Tests.{eqb-true}
use Rattle.std.specs.Prelude.{Option, Some, None}
use Rattle.trace.proofs.Tests.{by_test}
use Rattle.plan.specs.Plans.{access_letter, operator_letter}
use Rattle.plan.specs.Reading.{letter_of}
use Rattle.plan.specs.declared.Access.{Access}
use Rattle.plan.specs.declared.Access.TheVariants.{Read, Write, Sum}
use Rattle.plan.specs.declared.Operator.{Operator}
use Rattle.plan.specs.declared.Operator.TheVariants.{Series, Parallel}
use Rattle.plan.specs.declared.Letter.{Letter}
use Rattle.plan.specs.declared.Letter.TheVariants.{Leaf, Joint}

pub letter_access : (k : Access) → letter_of (access_letter k) ≡ Some (Leaf k)
unfolding letter_of
letter_access Read = refl
letter_access Write = refl
letter_access Sum = refl

pub letter_operator : (o : Operator) → letter_of (operator_letter o) ≡ Some (Joint o)
unfolding letter_of
letter_operator Series = refl
letter_operator Parallel = refl

-- ---- the other way

-- What a byte that is read as a letter is.
pub data Spelt (b : ℕ) : Option Letter → Type 0 where
  of_access : {k : Access} → b ≡ access_letter k → Spelt b (Some (Leaf k))
  of_operator : {o : Operator} → b ≡ operator_letter o → Spelt b (Some (Joint o))
  of_none : Spelt b None

pub spelt : (b : ℕ) → Spelt b (letter_of b)
unfolding letter_of
spelt b =
    by_test (eqb b 114) (λ e. rw e (of_access {k = Read} (eqb-true b 114 e)))
    (λ r. by_test (eqb b 119) (λ e. rw (r, e) (of_access {k = Write} (eqb-true b 119 e)))
    (λ w. by_test (eqb b 115) (λ e. rw (r, w, e) (of_access {k = Sum} (eqb-true b 115 e)))
    (λ s. by_test (eqb b 83) (λ e. rw (r, w, s, e) (of_operator {o = Series} (eqb-true b 83 e)))
    (λ o. by_test (eqb b 80) (λ e. rw (r, w, s, o, e) (of_operator {o = Parallel} (eqb-true b 80 e)))
    (λ p. rw (r, w, s, o, p) of_none)))))
