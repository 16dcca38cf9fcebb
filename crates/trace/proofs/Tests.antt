-- Tests and the facts that they decide: case analysis on a test, and `Tests b P`, that b is true exactly if P holds, put together from its parts.
-- Assumes nothing.
use Prim.Native.Nat.{ℕ, zero, suc, ◌<◌, ◌≤◌}
use mathlib.Core.Path.{◌≡◌, refl, sym, subst, ◌∙◌}
use mathlib.Core.Bool.{Bool, true, false, cond, not, ◌&&◌, ◌||◌, true≢false, false≢true}
use mathlib.Core.Option.{Option, none, some}
use mathlib.Core.Logic.{◌⊎◌, inl, inr, ◌≢◌, ◌↔◌}
use native.Mathlib.Omega.{arith}
use lib.Dec.{eqb, leb, ltb}
use borrow.Author.Tests.{eqb-true, eqb-false, eq-eqb, leb-true, le-leb, ltb-true, ltb-false, lt-ltb}
use Rattle.trace.specs.Orders.{or_this}
use Rattle.trace.specs.Search.{some_below, least_below, greatest_below}

-- ---- case analysis, the scrutinee first

pub by_test : {C : Type 0} (b : Bool) → (b ≡ true → C) → (b ≡ false → C) → C
by_test true f g = f refl
by_test false f g = g refl

pub either : {A B C : Type 0} → A ⊎ B → (A → C) → (B → C) → C
either (inl a) f g = f a
either (inr b) f g = g b

pub by_option : {C : Type 0} (z : Option ℕ) → (z ≡ none → C) → ((x : ℕ) → z ≡ some x → C) → C
by_option none f g = f refl
by_option (some x) f g = g x refl

pub same_or_not : (x y : ℕ) → (x ≡ y) ⊎ (x ≢ y)
same_or_not x y = by_test (eqb x y) (λ e. inl (eqb-true x y e)) (λ e. inr (eqb-false x y e))

pub lt_or_le : (x y : ℕ) → (x < y) ⊎ (y ≤ x)
lt_or_le x y = by_test (ltb x y) (λ e. inl (ltb-true x y e)) (λ e. inr (ltb-false x y e))

pub last_or_below : (p n : ℕ) → p < suc n → (p ≡ n) ⊎ (p < n)
last_or_below p n h = either (same_or_not p n) (λ e. inl e) (λ e. inr (omega arith))

-- ---- a test and its fact

abbrev pub Tests : Bool → Type 0 → Type 0
Tests b P = (b ≡ true) ↔ P

pub tests_fails : {P : Type 0} (b : Bool) → Tests b P → b ≡ false → P → ⊥
tests_fails b t e p = true≢false (sym (t.1 p) ∙ e)

pub tests_false : {P : Type 0} (b : Bool) → Tests b P → (P → ⊥) → b ≡ false
tests_false true t h = absurd (h (t.0 refl))
tests_false false t h = refl

pub tests_map : {P Q : Type 0} {b : Bool} → (P → Q) → (Q → P) → Tests b P → Tests b Q
tests_map f g t = (λ e. f (t.0 e), λ q. t.1 (g q))

-- two tests of one fact are equal
pub tests_unique : {P : Type 0} (a b : Bool) → Tests a P → Tests b P → a ≡ b
tests_unique true b s t = sym (t.1 (s.0 refl))
tests_unique false b s t = sym (tests_false b t (λ p. false≢true (s.1 p)))

pub test_eq : (a b : ℕ) → Tests (eqb a b) (a ≡ b)
test_eq a b = (eqb-true a b, eq-eqb a b)

pub test_lt : (a b : ℕ) → Tests (ltb a b) (a < b)
test_lt a b = (ltb-true a b, lt-ltb a b)

pub test_le : (a b : ℕ) → Tests (leb a b) (a ≤ b)
test_le a b = (leb-true a b, le-leb a b)

-- a test is the fact that it is true
pub test_self : (b : Bool) → Tests b (b ≡ true)
test_self b = (λ e. e, λ e. e)

pub test_and : {P Q : Type 0} (a b : Bool) → Tests a P → Tests b Q → Tests (a && b) (P × Q)
test_and true b s t = (λ e. (s.0 refl, t.0 e), λ h. t.1 h.1)
test_and false b s t = (λ e. absurd (false≢true e), λ h. s.1 h.0)

pub test_or : {P Q : Type 0} (a b : Bool) → Tests a P → Tests b Q → Tests (a || b) (P ⊎ Q)
test_or true b s t = (λ e. inl (s.0 refl), λ h. refl)
test_or false b s t = (λ e. inr (t.0 e), λ h. either h (λ p. absurd (false≢true (s.1 p))) t.1)

pub test_not : {P : Type 0} (a : Bool) → Tests a P → Tests (not a) (P → ⊥)
test_not true s = (λ e. absurd (false≢true e), λ h. absurd (h (s.0 refl)))
test_not false s = (λ e p. false≢true (s.1 p), λ h. refl)

-- b is asked only where a passes
pub test_when : {P Q : Type 0} (a b : Bool) → Tests a P → Tests b Q → Tests (cond a b false) (P × Q)
test_when true b s t = (λ e. (s.0 refl, t.0 e), λ h. t.1 h.1)
test_when false b s t = (λ e. absurd (false≢true e), λ h. s.1 h.0)

pub test_some : (n : ℕ) (f : ℕ → Bool) (P : ℕ → Type 0) → ((m : ℕ) → Tests (f m) (P m)) → Tests (some_below n f) ((m : ℕ) × (m < n) × P m)
unfolding some_below
test_some zero f P t = (λ e. absurd (false≢true e), λ h. let i = h.1 in absurd (omega arith))
test_some (suc n) f P t =
    let o = test_or (f n) (some_below n f) (t n) (test_some n f P t) in (
      λ e. either (o.0 e) (λ p. (n, omega arith, p)) (λ q. let i = q.1 in (q.0, omega arith, q.2)),
      λ h. o.1 (either (last_or_below h.0 n h.1) (λ e. inl (subst P e h.2)) (λ i. inr (h.0, i, h.2))),
    )

-- ---- the least position that passes

pub record Least (n : ℕ) (f : ℕ → Bool) (s : ℕ) : Type 0 where
  pub below : s < n
  pub passed : f s ≡ true
  pub none_before : (m : ℕ) → m < s → f m ≡ false

abbrev pub LeastIs : ℕ → (ℕ → Bool) → Option ℕ → Type 0
LeastIs n f (some s) = Least n f s
LeastIs n f none = (m : ℕ) → m < n → f m ≡ false

least_more : (n : ℕ) (f : ℕ → Bool) (o : Option ℕ) → LeastIs n f o → (b : Bool) → f n ≡ b → LeastIs (suc n) f (or_this o b n)
least_more n f (some s) L b e = let i = L.below in record { below = omega arith; passed = L.passed; none_before = L.none_before }
least_more n f none L true e = record { below = omega arith; passed = e; none_before = L }
least_more n f none L false e = λ m h. either (last_or_below m n h) (λ q. rw q e) (λ i. L m i)

pub least_is : (n : ℕ) (f : ℕ → Bool) → LeastIs n f (least_below n f)
unfolding least_below
least_is zero f = λ m h. absurd (omega arith)
least_is (suc n) f = least_more n f (least_below n f) (least_is n f) (f n) refl

-- Likewise the greatest.
pub record Greatest (n : ℕ) (f : ℕ → Bool) (s : ℕ) : Type 0 where
  pub below : s < n
  pub passed : f s ≡ true
  pub none_after : (m : ℕ) → s < m → m < n → f m ≡ false

abbrev pub GreatestIs : ℕ → (ℕ → Bool) → Option ℕ → Type 0
GreatestIs n f (some s) = Greatest n f s
GreatestIs n f none = (m : ℕ) → m < n → f m ≡ false

greatest_more : (n : ℕ) (f : ℕ → Bool) (o : Option ℕ) → GreatestIs n f o → (b : Bool) → f n ≡ b → GreatestIs (suc n) f (cond b (some n) o)
greatest_more n f o G true e = record { below = omega arith; passed = e; none_after = λ m a h. absurd (omega arith) }
greatest_more n f (some s) G false e =
    let i = G.below in
    record {
      below = omega arith;
      passed = G.passed;
      none_after = λ m a h. either (last_or_below m n h) (λ q. rw q e) (λ j. G.none_after m a j);
    }
greatest_more n f none G false e = λ m h. either (last_or_below m n h) (λ q. rw q e) (λ i. G m i)

pub greatest_is : (n : ℕ) (f : ℕ → Bool) → GreatestIs n f (greatest_below n f)
unfolding greatest_below
greatest_is zero f = λ m h. absurd (omega arith)
greatest_is (suc n) f = greatest_more n f (greatest_below n f) (greatest_is n f) (f n) refl
