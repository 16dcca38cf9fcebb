-- Which tops change where two trees are made one, and which become equal. Assumes nothing.
use Prim.Native.Nat.{ℕ, ◌+◌}
use mathlib.Core.Path.{◌≡◌, refl, sym, ap, ◌∙◌}
use mathlib.Core.Bool.{cond, ◌||◌}
use mathlib.Core.Logic.{◌≢◌, ◌⊎◌, inl, inr, ◌↔◌}
use native.Mathlib.Omega.{arith}
use borrow.Author.Tests.{eq-eqb, ne_eqb}
use lib.Dec.{eqb}
use Rattle.trace.proofs.Tests.{either, same_or_not}
use Rattle.trace.specs.Search.{bit}

-- A top h after the trees of a and b are made one, of which the top is s: s where h is a or b, else h.
unfoldable pub merged : ℕ → ℕ → ℕ → ℕ → ℕ
merged a b s h = cond (eqb h a || eqb h b) s h

-- h is one of the two.
abbrev pub OneOf : ℕ → ℕ → ℕ → Type 0
OneOf a b h = (h ≡ a) ⊎ (h ≡ b)

-- h is neither.
abbrev pub NoneOf : ℕ → ℕ → ℕ → Type 0
NoneOf a b h = (h ≢ a) × (h ≢ b)

pub one_or_none : (a b h : ℕ) → OneOf a b h ⊎ NoneOf a b h
one_or_none a b h =
    either (same_or_not h a) (λ e. inl (inl e)) (λ n. either (same_or_not h b) (λ e. inl (inr e)) (λ m. inr (n, m)))

pub merged_one : (a b s h : ℕ) → OneOf a b h → merged a b s h ≡ s
unfolding merged
merged_one a b s h o =
    either (same_or_not h a) (λ e. rw (eq-eqb h a e))
    (λ n. either o (λ e. absurd (n e)) (λ e. rw (ne_eqb h a n, eq-eqb h b e)))

pub merged_none : (a b s h : ℕ) → NoneOf a b h → merged a b s h ≡ h
unfolding merged
merged_none a b s h n = rw (ne_eqb h a n.0, ne_eqb h b n.1)

pub merged_comm : (a b s h : ℕ) → merged b a s h ≡ merged a b s h
merged_comm a b s h =
    either (one_or_none a b h)
    (λ o. merged_one b a s h (either o (λ e. inr e) (λ e. inl e)) ∙ sym (merged_one a b s h o))
    (λ n. merged_none b a s h (n.1, n.0) ∙ sym (merged_none a b s h n))

-- A top that is neither of the two is never taken for one of them.
merged_apart : (a b s g h : ℕ) → OneOf a b s → OneOf a b g → NoneOf a b h → merged a b s g ≡ merged a b s h → ⊥
merged_apart a b s g h o i n e =
    let z : s ≡ h = sym (merged_one a b s g i) ∙ (e ∙ merged_none a b s h n) in
    either o (λ q. n.0 (sym z ∙ q)) (λ q. n.1 (sym z ∙ q))

-- Two tops become one exactly if they are one already or each is one of the two.
pub same_merged : (a b s g h : ℕ) → OneOf a b s → (merged a b s g ≡ merged a b s h) ↔ ((g ≡ h) ⊎ (OneOf a b g × OneOf a b h))
same_merged a b s g h o = (
  λ e. either (one_or_none a b g)
      (λ i. either (one_or_none a b h) (λ j. inr (i, j)) (λ n. absurd (merged_apart a b s g h o i n e)))
      (λ n.
      either (one_or_none a b h) (λ j. absurd (merged_apart a b s h g o j n (sym e)))
      (λ m. inl (sym (merged_none a b s g n) ∙ (e ∙ merged_none a b s h m)))),
  λ w. either w (λ e. ap (λ (v : ℕ). merged a b s v) e) (λ p. merged_one a b s g p.0 ∙ sym (merged_one a b s h p.1)),
)

-- ---- x goes under y

-- Every top but x stays.
pub merged_kept : (x y h : ℕ) → h ≢ x → merged x y y h ≡ h
merged_kept x y h n = either (same_or_not h y) (λ e. merged_one x y y h (inr e) ∙ sym e) (λ m. merged_none x y y h (n, m))

-- y's tasks are then those of both.
pub bits_merged : (x y h : ℕ) → x ≢ y → bit (eqb (merged x y y h) y) ≡ bit (eqb h x) + bit (eqb h y)
bits_merged x y h n =
    either (same_or_not h x)
    (λ e.
    let m : h ≢ y = λ z. n (sym e ∙ z) in
    rw (merged_one x y y h (inl e), eq-eqb y y refl, eq-eqb h x e, ne_eqb h y m))
    (λ m. rw (merged_kept x y h m, ne_eqb h x m) (omega arith))

-- The tasks of a third top g stay.
pub test_merged : (x y g h : ℕ) → g ≢ x → g ≢ y → eqb (merged x y y h) g ≡ eqb h g
test_merged x y g h n m =
    either (same_or_not h x)
    (λ e.
    let other : y ≢ g = λ z. m (sym z) in
    let apart : h ≢ g = λ z. n (sym z ∙ e) in
    rw (merged_one x y y h (inl e), ne_eqb y g other, ne_eqb h g apart))
    (λ k. ap (λ (v : ℕ). eqb v g) (merged_kept x y h k))
