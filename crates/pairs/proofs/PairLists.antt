-- Lists of close pairs by any test: how long they are, when they are the same, and how they are written one after the other. Nothing here is of traces. Assumes
-- nothing.
use Prim.Native.Nat.{ℕ, zero, suc, ◌+◌, ◌-◌, ◌*◌, ◌<◌, ◌≤◌}
use mathlib.Core.Path.{◌≡◌, refl, sym, ap, ap₂, ◌∙◌}
use mathlib.Core.Bool.{Bool, true, false}
use mathlib.Core.List.{List, [], ◌++◌, map, map-append}
use native.Mathlib.Omega.{arith}
use native.Mathlib.Nat.{suc-mul, mul-suc}
use lib.ListN.{length, length-append, length-map}
use lib.Seq.{sets, length-sets}
use Rattle.trace.specs.Orders.{chosen}
use Rattle.trace.proofs.Tests.{either, lt_or_le}
use Rattle.trace.proofs.Lists.{select_count_up_same, chosen_empty, chosen_cut, chosen_few, sets_append}
use Rattle.pairs.specs.Pairs.{CLOSE, Pair, pair, pairs_at, pairs_below, Slices, slices}
use Rattle.pairs.specs.Close.{written}

-- ---- the pairs of one t

-- Two tests that agree on a stretch choose the same of it.
pub chosen_agree : (f g : ℕ → Bool) (from to : ℕ) → ((p : ℕ) → from ≤ p → p < to → f p ≡ g p) → chosen f from to ≡ chosen g from to
unfolding chosen
chosen_agree f g from to agree =
    either (lt_or_le to from) (λ l. let none : to - from ≡ 0 = omega arith in rw none)
    (λ l. select_count_up_same f g from (to - from) (λ p low high. agree p low (omega arith)))

module _ (test : ℕ → ℕ → Bool) (t : ℕ) where
  pub at_few : length (pairs_at test t) ≤ CLOSE
  unfolding pairs_at
  at_few =
      let e : (t - CLOSE) + (t - (t - CLOSE)) ≡ t = omega arith in
      omega (
        arith,
        length-map (chosen (λ s. test s t) (t - CLOSE) t) (λ s. pair s t),
        ap length (ap (chosen (λ s. test s t) (t - CLOSE)) e),
        chosen_few (λ s. test s t) (t - CLOSE) (t - (t - CLOSE)),
      )

  -- There are no more than events before t.
  at_fewer : length (pairs_at test t) ≤ t
  unfolding pairs_at
  at_fewer =
      let e : (t - CLOSE) + (t - (t - CLOSE)) ≡ t = omega arith in
      omega (
        arith,
        length-map (chosen (λ s. test s t) (t - CLOSE) t) (λ s. pair s t),
        ap length (ap (chosen (λ s. test s t) (t - CLOSE)) e),
        chosen_few (λ s. test s t) (t - CLOSE) (t - (t - CLOSE)),
      )

  pub at_none : ((s : ℕ) → s < t → test s t ≡ false) → pairs_at test t ≡ []
  unfolding pairs_at
  at_none fails =
      let e : (t - CLOSE) + (t - (t - CLOSE)) ≡ t = omega arith in
      ap (map (λ s. pair s t))
      (ap (chosen (λ s. test s t) (t - CLOSE)) (sym e)
      ∙ (chosen_cut (λ s. test s t) (t - CLOSE) (t - CLOSE) (t - (t - CLOSE)) (λ p low far high. fails p (omega arith))
      ∙ chosen_empty (λ s. test s t) (t - CLOSE) (t - CLOSE) (omega arith)))

  pub at_agree : (other : ℕ → ℕ → Bool) → ((s : ℕ) → s < t → test s t ≡ other s t) → pairs_at test t ≡ pairs_at other t
  unfolding pairs_at
  at_agree other agree = ap (map (λ s. pair s t)) (chosen_agree (λ s. test s t) (λ s. other s t) (t - CLOSE) t (λ s low less. agree s less))

-- ---- the pairs below n

module _ (test : ℕ → ℕ → Bool) where
  pub below_next : (t : ℕ) → pairs_below test (t + 1) ≡ pairs_below test t ++ pairs_at test t
  unfolding pairs_below
  below_next t = let e : t + 1 ≡ suc t = omega arith in ap (pairs_below test) e

  pub below_length : (t : ℕ) → length (pairs_below test (t + 1)) ≡ length (pairs_below test t) + length (pairs_at test t)
  below_length t = ap length (below_next t) ∙ length-append (pairs_below test t) (pairs_at test t)

  pub below_few : (n : ℕ) → length (pairs_below test n) ≤ CLOSE * n
  unfolding pairs_below
  below_few zero = omega arith
  below_few (suc t) = omega (arith, below_few t, at_few test t, length-append (pairs_below test t) (pairs_at test t))

  -- SO MANY CELLS SUFFICE (RACEJUDGE_MAX_PAIRS of the header): n (n - 1) / 2 for up to 256 events, and 256 n - 32,896 for more.
  pub below_half : (n : ℕ) → length (pairs_below test n) + length (pairs_below test n) + n ≤ n * n
  unfolding pairs_below
  below_half zero = omega arith
  below_half (suc t) =
      let square : suc t * suc t ≡ t * t + t + t + 1 = square_next t in
      omega (arith, below_half t, at_fewer test t, length-append (pairs_below test t) (pairs_at test t))
    where
      square_next : (t : ℕ) → suc t * suc t ≡ t * t + t + t + 1
      square_next t = simp (suc-mul, mul-suc) (omega arith)

  pub below_most : (k : ℕ) → length (pairs_below test (CLOSE + k)) + 32896 ≤ CLOSE * (CLOSE + k)
  below_most zero = omega (arith, below_half CLOSE)
  below_most (suc k) =
      let e : CLOSE + suc k ≡ CLOSE + k + 1 = omega arith in
      omega (arith, below_most k, at_few test (CLOSE + k), below_length (CLOSE + k), ap length (ap (pairs_below test) e))

  pub below_grows : (t k : ℕ) → length (pairs_below test t) ≤ length (pairs_below test (t + k))
  below_grows t zero = let e : t + 0 ≡ t = omega arith in omega (arith, ap length (ap (pairs_below test) e))
  below_grows t (suc k) =
      let e : t + suc k ≡ t + k + 1 = omega arith in
      omega (arith, below_grows t k, below_length (t + k), ap length (ap (pairs_below test) e))

  pub below_none : (n : ℕ) → ((s t : ℕ) → t < n → s < t → test s t ≡ false) → pairs_below test n ≡ []
  unfolding pairs_below
  below_none zero fails = refl
  below_none (suc t) fails =
      rw (below_none t (λ s u h i. fails s u (omega arith) i)) (at_none test t (λ s h. fails s t (omega arith) h))

  pub below_agree : (other : ℕ → ℕ → Bool) (n : ℕ) → ((s t : ℕ) → t < n → s < t → test s t ≡ other s t) → pairs_below test n ≡ pairs_below other n
  unfolding pairs_below
  below_agree other zero agree = refl
  below_agree other (suc t) agree =
      ap₂ (λ (x y : List Pair). x ++ y) (below_agree other t (λ s u h i. agree s u (omega arith) i)) (at_agree test t other (λ s h. agree s t (omega arith) h))

-- ---- lists that are written

pub written_none : (write : Bool) (at : ℕ) (b : Slices) → b ≡ written write at [] b
unfolding written
written_none true at b = refl
written_none false at b = refl

pub written_more :
    (write : Bool) (xs ys : List Pair) (b : Slices) (count : ℕ) → count ≡ length xs
    → written write count ys (written write 0 xs b) ≡ written write 0 (xs ++ ys) b
unfolding written
written_more true xs ys b count e =
    ap₂ slices (stored_more (λ p. p.s) b.earlier) (stored_more (λ p. p.t) b.later)
  where
    stored_more : (f : Pair → ℕ) (l : List ℕ) → sets (sets l 0 (map f xs)) count (map f ys) ≡ sets l 0 (map f (xs ++ ys))
    stored_more f l =
        let k : 0 + length (map f xs) ≡ count = omega (arith, length-map xs f) in
        sym
        (ap (sets l 0) (map-append f xs ys)
        ∙ (sets_append (map f xs) (map f ys) l 0 ∙ ap (λ (i : ℕ). sets (sets l 0 (map f xs)) i (map f ys)) k))
written_more false xs ys b count e = refl

pub written_lengths :
    (write : Bool) (at : ℕ) (xs : List Pair) (b : Slices)
    → (length (written write at xs b).earlier ≡ length b.earlier) × (length (written write at xs b).later ≡ length b.later)
unfolding written
written_lengths true at xs b = (length-sets b.earlier at (map (λ p. p.s) xs), length-sets b.later at (map (λ p. p.t) xs))
written_lengths false at xs b = (refl, refl)
