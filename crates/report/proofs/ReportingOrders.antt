-- The orders that are written: the events before s and those between s and t, each parted by their numbers, make the schedule of D. Assumes nothing.
use Prim.Native.Nat.{ℕ, suc, ◌+◌, ◌-◌, ◌<◌}
use mathlib.Core.Path.{◌≡◌, refl, sym, ap, ◌∙◌}
use mathlib.Core.Bool.{Bool, false, not, or-true, or-false}
use mathlib.Core.List.{List, [], ◌∷◌, ◌++◌, append_assoc}
use mathlib.Core.Logic.{◌≢◌}
use native.Mathlib.Omega.{arith}
use native.Mathlib.Numerals.{add-one, add-two}
use lib.ListN.{length, set, take, drop, length-append}
use lib.Seq.{sets, take_at}
use borrow.Author.Tests.{eq-eqb, ne_eqb, lt-ltb, le-ltb}
use Rattle.trace.specs.Orders.{chosen}
use Rattle.trace.specs.Outcome.{other?, schedule}
use Rattle.trace.proofs.WitnessOrders.{schedule_length}
use Rattle.report.specs.Reports.{reach_in, not_reach_in, in_d_in, of_d, others, order_in, Parted, Arranged}
use Rattle.trace.proofs.Lists.{sets_append, drop_sets, sets_front}
use Rattle.report.proofs.ReportingStores.{parts_chosen}

-- Two stores side by side, after a list.
set_pair : (xs ys : List ℕ) (a b x y : ℕ) → set (set (xs ++ (a ∷ b ∷ ys)) (length xs) x) (suc (length xs)) y ≡ xs ++ (x ∷ y ∷ ys)
set_pair [] ys a b x y = refl
set_pair (z ∷ xs) ys a b x y = ap (λ (l : List ℕ). z ∷ l) (set_pair xs ys a b x y)

-- ---- the events of D and the others

module _ (c : List ℕ) (s t : ℕ) (before : s < t) where
  -- D, by the numbers.
  abbrev D : ℕ → Bool
  D = in_d_in c s t

  D_below : (p : ℕ) → p < s → reach_in c s p ≡ D p
  unfolding in_d_in
  D_below p h = rw (lt-ltb p s h, le-ltb s p (omega arith), or-false)

  D_above : (p : ℕ) → s < p → p < t → reach_in c t p ≡ D p
  unfolding in_d_in
  D_above p h i = rw (le-ltb p s (omega arith), lt-ltb s p h, lt-ltb p t i)

  s_out : D s ≡ false
  unfolding in_d_in
  s_out = rw (le-ltb s s (omega arith))

  t_out : D t ≡ false
  unfolding in_d_in
  t_out = rw (le-ltb t s (omega arith), lt-ltb s t before, le-ltb t t (omega arith))

  other_is : (p : ℕ) → p ≢ s → p ≢ t → not (D p) ≡ other? D s t p
  other_is p not_s not_t = rw (ne_eqb p s not_s, ne_eqb p t not_t, or-false)

  -- D and the others, each in two stretches.
  parted_D : chosen (reach_in c s) 0 s ++ chosen (reach_in c t) (s + 1) t ≡ of_d c s t
  parted_D = parts_chosen s t before D (reach_in c s) (reach_in c t) s_out t_out D_below D_above

  parted_others : chosen (not_reach_in c s) 0 s ++ chosen (not_reach_in c t) (s + 1) t ≡ others c s t
  parted_others =
      parts_chosen s t before (other? D s t) (not_reach_in c s) (not_reach_in c t) (rw (s_out, eq-eqb s s refl)) (rw (t_out, eq-eqb t t refl, or-true))
      (λ p h. ap not (D_below p h) ∙ other_is p (λ e. omega arith) (λ e. omega arith))
      (λ p h i. ap not (D_above p h i) ∙ other_is p (λ e. omega arith) (λ e. omega arith))

  -- There is an entry for each event up to t.
  order_length : (a b : ℕ) → length (schedule D s t a b) ≡ suc t
  order_length a b = schedule_length D s t before s_out t_out a b

  -- What the two calls of `partition` leave.
  pub parted :
      {l₁ l₂ m₁ m₂ n₁ n₂ : List ℕ} {at r : ℕ} → Parted l₁ l₂ m₁ m₂ 0 0 (s - 0) (chosen (reach_in c s) 0 s) (chosen (not_reach_in c s) 0 s) at
      → Parted m₁ m₂ n₁ n₂ at (s - at) (t - (s + 1)) (chosen (reach_in c t) (s + 1) t) (chosen (not_reach_in c t) (s + 1) t) r
      → Parted l₁ l₂ n₁ n₂ 0 0 (t - 1) (of_d c s t) (others c s t) r
  parted {l₁} {l₂} {at = at} one two =
      let xs = chosen (reach_in c s) 0 s in
      let xs' = chosen (reach_in c t) (s + 1) t in
      let ys = chosen (not_reach_in c s) 0 s in
      let ys' = chosen (not_reach_in c t) (s + 1) t in
      let past = one.past in
      let past' = two.past in
      let all = one.all in
      let all' = two.all in
      let end : s - at ≡ 0 + length ys = omega arith in
      rw (← parted_D, ← parted_others)
      (record {
        past = omega (arith, length-append xs xs');
        all = omega (arith, length-append xs xs', length-append ys ys');
        in_first = two.in_first ∙ rw (one.in_first, past) (sym (sets_append xs xs' l₁ 0));
        in_second = two.in_second ∙ rw (one.in_second, end) (sym (sets_append ys ys' l₂ 0));
      })

  -- The stores of `arrange`: D, the pair, and the others, with which `second` begins then.
  pub arranged :
      {first second one two all : List ℕ} {at : ℕ} → t < length first → t < length second
      → Parted first second one two 0 0 (t - 1) (of_d c s t) (others c s t) at
      → all ≡ sets (set (set one at s) (at + 1) t) (at + 2) (take (t - 1 - at) two) → Arranged c first second all two s t at
  arranged {first} {second} {two = two} {at = at} room room' done last =
      let xs = of_d c s t in
      let ys = others c s t in
      let past = done.past in
      let all = done.all in
      let count : length ys ≡ t - 1 - at = omega arith in
      let taken : take (t - 1 - at) two ≡ ys =
      rw (done.in_second, sets_front ys second (t - 1 - at) count (omega arith)) (take_at ys (drop (t - 1 - at) second) (t - 1 - at) count) in
      record {
        within = omega arith;
        place = omega arith;
        in_first =
            last
            ∙ (rw (taken, add-one at, add-two at, past, done.in_first) (sym (sets_append xs (s ∷ t ∷ ys) first 0))
            ∙ sets_front (schedule D s t s t) first (suc t) (order_length s t) room);
        in_second = rw done.in_second (drop_sets ys second 0 (suc t) (omega arith));
      }

  -- The copy, with the pair the other way round.
  pub swapped :
      {first second one two copied : List ℕ} {at : ℕ} → t < length two → Arranged c first second one two s t at → copied ≡ sets two 0 (take (t + 1) one)
      → set (set copied at t) (at + 1) s ≡ order_in c s t t s second
  swapped {first} {second} {one} {two} {copied} {at} room done told =
      let xs = of_d c s t in
      let ys = others c s t in
      let tail = drop (suc t) second in
      let long = order_length s t in
      let whole : copied ≡ xs ++ (s ∷ t ∷ (ys ++ tail)) =
      told
      ∙ rw (done.in_first, add-one t, take_at (schedule D s t s t) (drop (suc t) first) (suc t) long)
      (sets_front (schedule D s t s t) two (suc t) long room
      ∙ (ap (λ (l : List ℕ). schedule D s t s t ++ l) done.in_second ∙ append_assoc xs (s ∷ t ∷ ys) tail)) in
      rw (whole, add-one at, done.place) (set_pair xs (ys ++ tail) s t t s ∙ sym (append_assoc xs (t ∷ s ∷ ys) tail))
