-- The positions that pass a test, stored cell after cell, and in two stretches. Nothing here is of numbers or of traces. Assumes nothing.
use Prim.Native.Nat.{ℕ, suc, ◌+◌, ◌-◌, ◌<◌, ◌≤◌}
use mathlib.Core.Path.{◌≡◌, refl, sym, ap, ap₂, ◌∙◌}
use mathlib.Core.Bool.{Bool, true, false}
use mathlib.Core.List.{List, [], ◌∷◌, ◌++◌}
use native.Mathlib.Omega.{arith}
use native.Mathlib.Numerals.{add-one}
use native.Mathlib.Nat.{add-zero, zero-add}
use lib.ListN.{length, get_or, set, take, length-set, length-append}
use lib.Seq.{sets, take-suc, length-take-le}
use Rattle.trace.specs.Orders.{count_up, positions, select, chosen}
use Rattle.trace.specs.Outcome.{other?, schedule}
use Rattle.trace.proofs.Lists.{select_append, count_up_append, select_count_up_same, select_positions_failed}
use Rattle.trace.proofs.Lists.{chosen_none, chosen_passed, chosen_failed, sets_append}
use Rattle.report.specs.Reports.{Parted}

-- One cell more is copied.
pub copied_more :
    (from to out : List ℕ) (at i : ℕ) → i < length from → out ≡ sets to at (take i from)
    → set out (at + i) (get_or from i 0) ≡ sets to at (take (i + 1) from)
copied_more from to out at i h done =
    let long = length-take-le i from (omega arith) in
    rw (done, add-one i, take-suc from i 0 h, sets_append (take i from) (get_or from i 0 ∷ []) to at, long)

-- ---- positions that pass a test

-- From cell `at` on, l has got the positions from `from` up to p that pass: it is m then, and `next` is past them.
pub record Stored (test : ℕ → Bool) (from at : ℕ) (l : List ℕ) (p next : ℕ) (m : List ℕ) : Type 0 where
  pub place : next ≡ at + length (chosen test from p)
  pub held : m ≡ sets l at (chosen test from p)
  pub long : length m ≡ length l

module _ {test : ℕ → Bool} {from at : ℕ} {l : List ℕ} where
  pub stored_none : Stored test from at l from at l
  stored_none = let none = chosen_none test from in record { place = rw (none, add-zero at); held = rw none; long = refl }

  module _ {p next : ℕ} {m : List ℕ} (low : from ≤ p) (done : Stored test from at l p next m) where
    -- A position that passes is stored,
    pub stored_passed : test p ≡ true → Stored test from at l (p + 1) (next + 1) (set m next p)
    stored_passed e =
        let more = chosen_passed test from p low e in
        let place = done.place in
        record {
          place = omega (arith, ap length more, length-append (chosen test from p) (p ∷ []));
          held = rw (more, sets_append (chosen test from p) (p ∷ []) l at, done.held, place);
          long = length-set m next p ∙ done.long;
        }

    -- and no other.
    pub stored_failed : test p ≡ false → Stored test from at l (p + 1) next m
    stored_failed e =
        let same = chosen_failed test from p low e in
        record { place = rw same done.place; held = rw same done.held; long = done.long }

-- Both have come to the end.
pub stored_parted :
    {f g : ℕ → Bool} {from low high e p i j : ℕ} {l₁ l₂ m₁ m₂ : List ℕ} → p ≡ e → i + j ≡ low + high + (p - from) → Stored f from low l₁ p i m₁
    → Stored g from high l₂ p j m₂ → Parted l₁ l₂ m₁ m₂ low high (e - from) (chosen f from e) (chosen g from e) i
stored_parted end sum one two =
    let past = one.place in
    let past' = two.place in
    rw (← end) (record { past = past; all = omega arith; in_first = one.held; in_second = two.held })

-- ---- positions in two stretches

-- Two tests that agree up to t have one schedule.
pub schedule_same : (f g : ℕ → Bool) (s t a b : ℕ) → ((p : ℕ) → p < suc t → f p ≡ g p) → schedule f s t a b ≡ schedule g s t a b
schedule_same f g s t a b h =
    ap₂ (λ (x y : List ℕ). x ++ (a ∷ b ∷ y)) (select_count_up_same f g 0 (suc t) (λ p low high. h p (omega arith)))
    (select_count_up_same (other? f s t) (other? g s t) 0 (suc t) (λ p low high. let here = h p (omega arith) in rw here))

module _ (s t : ℕ) (before : s < t) where
  -- The positions up to t that pass a test which s and t fail: those before s, then those between s and t.
  chosen_parts : (f : ℕ → Bool) → f s ≡ false → f t ≡ false → select f (positions (suc t)) ≡ chosen f 0 s ++ chosen f (suc s) t
  unfolding chosen
  chosen_parts f at-s at-t =
      let e : t ≡ s + suc (t - suc s) = omega arith in
      let z : s - 0 ≡ s = omega arith in
      select_positions_failed f t at-t
      ∙ (ap (λ (m : ℕ). select f (positions m)) e
      ∙ (ap (select f) (count_up_append 0 s (suc (t - suc s)))
      ∙ (select_append f (positions s) (count_up (0 + s) (suc (t - suc s))) ∙ rw (zero-add s, at-s, z))))

  -- The same, where each part has a test of its own.
  pub parts_chosen :
      (f low high : ℕ → Bool) → f s ≡ false → f t ≡ false → ((p : ℕ) → p < s → low p ≡ f p) → ((p : ℕ) → s < p → p < t → high p ≡ f p)
      → chosen low 0 s ++ chosen high (s + 1) t ≡ select f (positions (suc t))
  unfolding chosen
  parts_chosen f low high at-s at-t below above =
      rw (add-one s)
      (ap₂ (λ (x y : List ℕ). x ++ y) (select_count_up_same low f 0 (s - 0) (λ p l h. below p (omega arith)))
      (select_count_up_same high f (suc s) (t - suc s) (λ p l h. above p (omega arith) (omega arith)))
      ∙ sym (chosen_parts f at-s at-t))
