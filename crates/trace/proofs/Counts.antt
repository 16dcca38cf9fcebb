-- Laws of `count_below`, the number of numbers below a bound that pass a test. Assumes nothing.
use Prim.Native.Nat.{ℕ, zero, suc, ◌+◌, ◌≤◌, ◌<◌}
use mathlib.Core.Path.{◌≡◌, refl, ap}
use mathlib.Core.Bool.{Bool, true, false}
use native.Mathlib.Omega.{arith}
use borrow.Author.Tests.{eq-eqb, ne_eqb}
use lib.Dec.{eqb}
use Rattle.trace.proofs.Tests.{either, last_or_below}
use Rattle.trace.specs.Search.{bit, count_below}

bit_le : (b : Bool) → bit b ≤ 1
bit_le true = omega arith
bit_le false = omega arith

pub count_le : (n : ℕ) (p : ℕ → Bool) → count_below n p ≤ n
unfolding count_below
count_le zero p = omega arith
count_le (suc n) p = omega (arith, count_le n p, bit_le (p n))

-- Tests that agree below n count alike.
pub count_same : (n : ℕ) (p q : ℕ → Bool) → ((i : ℕ) → i < n → p i ≡ q i) → count_below n p ≡ count_below n q
unfolding count_below
count_same zero p q h = refl
count_same (suc n) p q h =
    let e : bit (p n) ≡ bit (q n) = ap bit (h n (omega arith)) in
    omega (arith, e, count_same n p q (λ i l. h i (omega arith)))

-- A test that is one of two that exclude each other counts as both together.
pub count_sum : (n : ℕ) (r p q : ℕ → Bool)
    → ((i : ℕ) → i < n → bit (r i) ≡ bit (p i) + bit (q i))
    → count_below n r ≡ count_below n p + count_below n q
unfolding count_below
count_sum zero r p q h = refl
count_sum (suc n) r p q h = omega (arith, h n (omega arith), count_sum n r p q (λ i l. h i (omega arith)))

-- No number below n is h where n ≤ h, and exactly one is where h < n.
count_none : (n h : ℕ) → n ≤ h → count_below n (λ (t : ℕ). eqb t h) ≡ 0
unfolding count_below
count_none zero h l = refl
count_none (suc n) h l = rw (ne_eqb n h (omega arith), count_none n h (omega arith))

pub count_one : (n h : ℕ) → h < n → count_below n (λ (t : ℕ). eqb t h) ≡ 1
unfolding count_below
count_one zero h l = absurd (omega arith)
count_one (suc n) h l =
    either (last_or_below h n l)
    (λ e. rw (eq-eqb n h (omega arith), count_none n h (omega arith)))
    (λ i. rw (ne_eqb n h (omega arith), count_one n h i))

-- One number more: it passes the test, or not.
module _ (n : ℕ) (p : ℕ → Bool) where
  pub count_hit : p n ≡ true → count_below (suc n) p ≡ count_below n p + 1
  unfolding count_below
  count_hit e = let b : bit (p n) ≡ 1 = ap bit e in omega arith

  pub count_miss : p n ≡ false → count_below (suc n) p ≡ count_below n p
  unfolding count_below
  count_miss e = let b : bit (p n) ≡ 0 = ap bit e in omega arith
