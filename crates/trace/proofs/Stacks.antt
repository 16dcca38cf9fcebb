-- Stacks of task numbers, as lists with the top first: membership, stacks with no entry twice, how long these can be; and functions on numbers that
-- are changed at one place. Assumes nothing.
use Prim.Native.Nat.{ℕ, zero, suc, ◌<◌, ◌≤◌}
use mathlib.Core.Path.{◌≡◌, refl, sym, subst}
use mathlib.Core.Bool.{cond}
use mathlib.Core.List.{List, [], ◌∷◌}
use mathlib.Core.Logic.{◌⊎◌, inl, inr, ◌≢◌}
use native.Mathlib.Omega.{arith}
use lib.Dec.{eqb}
use lib.ListN.{length}
use borrow.Author.Tests.{eq-eqb, ne_eqb}
use Rattle.trace.specs.Line.{remove}
use Rattle.trace.proofs.Tests.{either, same_or_not}

-- ---- membership

abbrev pub In : ℕ → List ℕ → Type 0
In a [] = ⊥
In a (b ∷ l) = (a ≡ b) ⊎ In a l

pub in_eq : {a b : ℕ} (l : List ℕ) → a ≡ b → In b l → In a l
in_eq l e i = subst (λ (z : ℕ). In z l) (sym e) i

-- One entry more leaves the others in.
pub in_cons : {a b : ℕ} (l l' : List ℕ) → (In a l → In a l') → In a (b ∷ l) → In a (b ∷ l')
in_cons l l' f i = either i (λ e. inl e) (λ j. inr (f j))

-- ---- stacks with no entry twice

abbrev pub Distinct : List ℕ → Type 0
Distinct [] = Unit {0}
Distinct (y ∷ l) = (In y l → ⊥) × Distinct l

in_remove : (a y : ℕ) (l : List ℕ) → In y (remove a l) → In y l
unfolding remove
in_remove a y [] i = i
in_remove a y (z ∷ l) i =
    either (same_or_not z a) (λ e. inr (rw (eq-eqb z a e) at i)) (λ e. in_cons (remove a l) l (in_remove a y l) (rw (ne_eqb z a e) at i))

-- In a stack with no entry twice the removed entry is gone.
remove_gone : (a : ℕ) (l : List ℕ) → Distinct l → In a (remove a l) → ⊥
unfolding remove
remove_gone a [] d i = i
remove_gone a (z ∷ l) d i =
    either (same_or_not z a)
    (λ e. d.0 (in_eq l e (rw (eq-eqb z a e) at i)))
    (λ e. either (rw (ne_eqb z a e) at i) (λ q. e (sym q)) (remove_gone a l d.1))

remove_distinct : (a : ℕ) (l : List ℕ) → Distinct l → Distinct (remove a l)
unfolding remove
remove_distinct a [] d = tt
remove_distinct a (z ∷ l) d =
    either (same_or_not z a)
    (λ e. rw (eq-eqb z a e) d.1)
    (λ e. rw (ne_eqb z a e) (λ i. d.0 (in_remove a z l i), remove_distinct a l d.1))

remove_length : (a : ℕ) (l : List ℕ) → length l ≤ suc (length (remove a l))
unfolding remove
remove_length a [] = omega arith
remove_length a (z ∷ l) =
    either (same_or_not z a) (λ e. rw (eq-eqb z a e) (omega arith)) (λ e. rw (ne_eqb z a e) (omega (arith, remove_length a l)))

-- A stack of numbers below n with no entry twice has at most n entries.
pub distinct_length : (n : ℕ) (l : List ℕ) → Distinct l → ((y : ℕ) → In y l → y < n) → length l ≤ n
distinct_length zero [] d f = omega arith
distinct_length zero (y ∷ l) d f = let h = f y (inl refl) in absurd (omega arith)
distinct_length (suc n) l d f =
    let shorter = distinct_length n (remove n l) (remove_distinct n l d)
    (λ y i. let h = f y (in_remove n y l i) in let other : y ≢ n = λ e. remove_gone n l d (in_eq (remove n l) (sym e) i) in omega arith) in
    omega (arith, remove_length n l)

-- ---- functions changed at one place

-- f, but v at u.
unfoldable pub updated : (ℕ → ℕ) → ℕ → ℕ → ℕ → ℕ
updated f u v t = cond (eqb t u) v (f t)

pub updated_same : (f : ℕ → ℕ) (u v t : ℕ) → t ≡ u → updated f u v t ≡ v
unfolding updated
updated_same f u v t e = rw (eq-eqb t u e)

pub updated_other : (f : ℕ → ℕ) (u v t : ℕ) → t ≢ u → updated f u v t ≡ f t
unfolding updated
updated_other f u v t h = rw (ne_eqb t u h)
