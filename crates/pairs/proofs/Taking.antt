-- The partners of one access: they stand in its window, before the position from which on its location is not seen, and are stored as the pairs of t. Assumes
-- nothing.
use Prim.Native.Nat.{ℕ, ◌+◌, ◌-◌, ◌<◌, ◌≤◌}
use mathlib.Core.Path.{◌≡◌, refl, sym, ap, ap₂, ◌∙◌}
use mathlib.Core.Bool.{Bool, true, false}
use mathlib.Core.List.{List, [], ◌∷◌, map}
use native.Mathlib.Omega.{arith}
use lib.Dec.{eqb}
use lib.ListN.{length, get_or, replicate, length-map}
use lib.Seq.{sets}
use mir.Val.{bool_byte}
use Rattle.trace.specs.Trace.{is_access, LOCATIONS}
use Rattle.trace.specs.Orders.{chosen}
use Rattle.trace.proofs.Tests.{tests_false}
use Rattle.trace.proofs.Lists.{chosen_empty, chosen_cut}
use Rattle.cells.specs.Cells.{number_in}
use Rattle.ranks.proofs.Leaves.{bit_few}
use Rattle.pairs.specs.declared.Access.{Access}
use Rattle.pairs.specs.Pairs.{CLOSE, pair, pairs_at, Slices, slices}
use Rattle.pairs.specs.Close.{race_by, AccessAt, partner_in, Readable, Marked, is_marked, Writable, SEEN, written, close_in, Visitable, Taken}
use Rattle.pairs.proofs.Partners.{partner_is, test_race_by}
use Rattle.pairs.proofs.Storing.{no_length, map_replicate}
use Rattle.pairs.proofs.PairLists.{chosen_agree, written_none}

-- ---- the pairs of t

module _ (t : ℕ) where
  -- Those of s are the positions themselves, and those of t is t for each.
  pub pairs_earlier : (xs : List ℕ) → map (λ p. p.s) (map (λ s. pair s t) xs) ≡ xs
  pairs_earlier [] = refl
  pairs_earlier (x ∷ xs) = ap (λ (l : List ℕ). x ∷ l) (pairs_earlier xs)

  pub pairs_later : (xs : List ℕ) → map (λ p. p.t) (map (λ s. pair s t) xs) ≡ map (λ s. t) xs
  pairs_later [] = refl
  pairs_later (x ∷ xs) = ap (λ (l : List ℕ). t ∷ l) (pairs_later xs)

-- ---- the window

module _ {kinds operands c : List ℕ} {write : Bool} {b : Slices} {count t : ℕ} (v : Visitable kinds operands c write b count t)
    (access : is_access (get_or kinds t 0) ≡ true) (a : Access) (at : AccessAt kinds operands c t a) where
  pub access_location : a.location < LOCATIONS
  access_location = let e = at.location in let few = v.location access in omega arith

  module _ (from to : ℕ) (begin : from ≡ t - CLOSE) (seen : to ≡ get_or c (SEEN + a.location) 0) where
    to_within : to ≤ t
    to_within = let h = v.seen.within a.location access_location in omega arith

    pub window_readable : Readable kinds operands c to × (to ≤ from + CLOSE)
    window_readable =
        let h = to_within in
        let inside = v.inside in
        let same = v.of_operands in
        let room = v.room in
        (record { of_kinds = omega arith; of_operands = omega arith; room = omega arith }, omega arith)

    -- Past it no access of the location stands before t.
    none_past : (p : ℕ) → to ≤ p → p < t → race_by kinds operands (number_in c) p t ≡ false
    none_past p low high =
        tests_false _ (test_race_by kinds operands (number_in c) p t high)
        (λ r.
        let against = r.against in
        v.seen.none_since a.location p access_location (rw (← seen) low) high against.access (against.one_location ∙ sym at.location))

    partners_are : chosen (partner_in kinds operands c a) from to ≡ chosen (λ s. race_by kinds operands (number_in c) s t) (t - CLOSE) t
    partners_are =
        let h = to_within in
        let e : to + (t - to) ≡ t = omega arith in
        let race : ℕ → Bool = λ s. race_by kinds operands (number_in c) s t in
        chosen_agree (partner_in kinds operands c a) race from to (λ p low less. partner_is kinds operands c t a at access p)
        ∙ (sym (chosen_cut race from to (t - to) (λ p low far less. none_past p far (omega arith)))
        ∙ ap₂ (λ (x y : ℕ). chosen race x y) begin e)

    partners_length : length (chosen (partner_in kinds operands c a) from to) ≡ length (close_in kinds operands c t)
    unfolding pairs_at
    partners_length = ap length partners_are ∙ sym (length-map (chosen (λ s. race_by kinds operands (number_in c) s t) (t - CLOSE) t) (λ s. pair s t))

    -- It may be empty.
    pub taken_none : to ≤ from → Taken kinds operands c write b b count count t
    taken_none empty =
        let none : close_in kinds operands c t ≡ [] =
        no_length (close_in kinds operands c t) (omega (arith, partners_length, ap length (chosen_empty (partner_in kinds operands c a) from to empty))) in
        rw none (omega arith, written_none write count b)

    module _ (marks : List ℕ) (found end : ℕ) (marked : Marked kinds operands c a from to marks found) (sum : end ≡ count + found) where
      marked_are : chosen (is_marked marks from) from to ≡ chosen (partner_in kinds operands c a) from to
      unfolding is_marked
      marked_are =
          chosen_agree (is_marked marks from) (partner_in kinds operands c a) from to
          (λ s low less. rw (marked.each s low less) (by_bit (partner_in kinds operands c a s)))
        where
          by_bit : (b : Bool) → eqb (bool_byte b) 1 ≡ b
          by_bit true = refl
          by_bit false = refl

      taken_count : end ≡ count + length (close_in kinds operands c t)
      taken_count = let e = partners_length in let counted = marked.counted in omega arith

      module _ (asked : write ≡ true) where
        pub window_writable : Writable marks from to b.earlier count end
        window_writable =
            let h = to_within in
            let inside = v.inside in
            let few = v.few in
            let e = taken_count in
            let room = v.fits.earlier asked in
            let long = marked.long in
            record {
              room_marks = omega (arith, window_readable.1);
              bits = λ s low less. omega (arith, marked.each s low less, bit_few (partner_in kinds operands c a s));
              few = omega arith;
              all = omega (arith, ap length marked_are, marked.counted);
              room = omega arith;
            }

        pub later_writable : (count ≤ end) × (end ≤ length b.later)
        later_writable = let e = taken_count in let room = v.fits.later asked in (omega arith, omega arith)

      -- The pairs are not asked for,
      pub taken_counted : write ≡ false → Taken kinds operands c write b b count end t
      unfolding written
      taken_counted left = (taken_count, rw left refl)

      -- or they are written.
      pub taken_written :
          (earlier later : List ℕ) → write ≡ true → earlier ≡ sets b.earlier count (chosen (is_marked marks from) from to)
          → later ≡ sets b.later count (replicate (end - count) t) → Taken kinds operands c write b (slices earlier later) count end t
      unfolding written pairs_at
      taken_written earlier later asked one two =
          let xs = chosen (λ s. race_by kinds operands (number_in c) s t) (t - CLOSE) t in
          let k : end - count ≡ length xs = omega (arith, sum, marked.counted, ap length partners_are) in (
            taken_count,
            rw asked
                (ap₂ slices (one ∙ ap (sets b.earlier count) (marked_are ∙ (partners_are ∙ sym (pairs_earlier t xs))))
                (two ∙ ap (sets b.later count) (ap (λ (m : ℕ). replicate m t) k ∙ sym (pairs_later t xs ∙ map_replicate xs t)))),
          )
