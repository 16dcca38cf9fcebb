-- The list of stops, as it is made in cells. Assumes nothing.
use Prim.Native.Nat.{ℕ, zero, suc, ◌+◌, ◌<◌, ◌≤◌}
use mathlib.Core.Path.{◌≡◌, refl, ◌∙◌}
use mathlib.Core.Bool.{Bool, true, false, cond}
use mathlib.Core.List.{List}
use mathlib.Core.Logic.{inl, inr}
use native.Mathlib.Omega.{arith}
use native.Mathlib.Numerals.{add-one}
use lib.Dec.{eqb}
use lib.ListN.{length, set, length-set}
use lib.Seq.{get_or-set_same, get_or-set_other}
use Rattle.trace.proofs.Tests.{either, last_or_below}
use Rattle.cells.specs.Cells.{Filled, NUMBER, number_in}
use Rattle.stops.specs.Stops.{mark_of, stops_before, Collected, Marks, is_marked}
use Rattle.stops.proofs.Counting.{stops_agree, stops_below, stops_rise}

pub collected_none : (stop : ℕ → Bool) (c : List ℕ) → Collected stop 0 c c 0
unfolding stops_before
collected_none stop c = record { counted = refl; table = λ p h s. absurd (omega arith); long = refl; same = λ i h. refl }

pub collected_below : {stop : ℕ → Bool} {n count : ℕ} {c d : List ℕ} → Collected stop n c d count → count ≤ n
collected_below {stop} {n} g = let e = g.counted in omega (arith, stops_below stop n)

-- One more event: its position is stored behind those of the stops before it, and counts if it is a stop.
pub collected_more :
    {stop : ℕ → Bool} {n count : ℕ} {c d : List ℕ} (m : ℕ) → Collected stop n c d count → NUMBER + n < length c → m ≡ mark_of stop n
    → Collected stop (n + 1) c (set d (NUMBER + count) n) (count + m)
unfolding stops_before
collected_more {stop} {n} {count} {c} {d} m g room e =
    let long = g.long in
    let counted = g.counted in
    let below = stops_below stop n in
    record {
      counted = rw (add-one, e, counted);
      table = λ p h s.
          either (last_or_below p n (rw add-one at h))
          (λ last. rw (last, ← counted) (get_or-set_same d (NUMBER + count) n 0 (omega arith)))
          (λ earlier. let rise = stops_rise stop p n earlier s in
          get_or-set_other d (NUMBER + count) (NUMBER + stops_before stop p) n 0 (λ q. omega arith) ∙ g.table p earlier s);
      long = length-set d (NUMBER + count) n ∙ long;
      same = λ i h.
          get_or-set_other d (NUMBER + count) i n 0 (λ q. either h (λ low. omega arith) (λ high. omega arith))
          ∙ g.same i (either h (λ low. inl low) (λ high. inr (omega arith)));
    }

-- ---- marks

marked_same : (v : ℕ) → v ≤ 1 → v ≡ cond (eqb v 1) 1 0
marked_same zero h = refl
marked_same (suc zero) h = refl
marked_same (suc (suc v)) h = absurd (omega arith)

-- A mark of the next event, read after the stops before it are in place.
pub mark_ahead :
    {n count : ℕ} {c d : List ℕ} {k : ℕ} → Collected (is_marked c) n c d count → Marks k c → n < k → number_in d n ≡ mark_of (is_marked c) n
mark_ahead {n} {c = c} g marks h = g.same (NUMBER + n) (inr (omega arith)) ∙ marked_same (number_in c n) (marks n h)

bit_small : (b : Bool) → cond b 1 0 ≤ 1
bit_small true = omega arith
bit_small false = omega arith

bit_test : (b : Bool) → eqb (cond b 1 0) 1 ≡ b
bit_test true = refl
bit_test false = refl

module _ (stop : ℕ → Bool) {n : ℕ} {c d : List ℕ} (f : Filled NUMBER n (mark_of stop) c d) where
  pub marks : Marks n d
  marks p h = rw (f.filled p h) (bit_small (stop p))

  marked : (p : ℕ) → p < n → is_marked d p ≡ stop p
  marked p h = rw (f.filled p h) (bit_test (stop p))

  counted_marks : (p : ℕ) → p ≤ n → stops_before (is_marked d) p ≡ stops_before stop p
  counted_marks p h = stops_agree (is_marked d) stop p (λ q i. marked q (omega arith))

  -- The list made of the marks is that of the stops.
  pub collected : {e : List ℕ} {count : ℕ} → Collected (is_marked d) n d e count → Collected stop n c e count
  collected g =
      record {
        counted = g.counted ∙ counted_marks n (omega arith);
        table = λ p h s. rw (counted_marks p (omega arith)) at (g.table p h (marked p h ∙ s));
        long = g.long ∙ f.long;
        same = λ i h. g.same i h ∙ f.same i h;
      }
