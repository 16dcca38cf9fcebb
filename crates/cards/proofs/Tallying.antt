-- The tally: what the tables hold after the first i events, by count, least and greatest position, holds after the next one too (`tallied-access`,
-- `tallied-other`); and the card off the tables is the location's (`card_is`). Assumes nothing.
use Prim.Native.Nat.{ℕ, suc, ◌+◌, ◌<◌}
use native.Mathlib.Numerals.{add-one}
use mathlib.Core.Path.{◌≡◌, refl, sym, ap, subst, ◌∙◌}
use mathlib.Core.Bool.{Bool, true, false, true≢false}
use mathlib.Core.List.{List}
use mathlib.Core.Logic.{◌≢◌}
use mathlib.Core.Option.{Option, none, some}
use native.Mathlib.Omega.{arith}
use lib.ListN.{length, get_or}
use borrow.Author.Tests.{eq-eqb, ne_eqb}
use Rattle.trace.specs.Trace.{Trace, trace_of, READ, WRITE, SUM, is_access, LOCATIONS}
use Rattle.trace.specs.Orders.{or_this}
use Rattle.kinds.specs.Kinds.{index_of}
use Rattle.trace.specs.Search.{least_below, greatest_below, count_below}
use Rattle.trace.proofs.Tests.{either, same_or_not}
use Rattle.trace.proofs.Lists.{or_this_failed}
use Rattle.kinds.proofs.ByNumber.{index_few, index_apart}
use Rattle.trace.proofs.Counts.{count_le, count_hit, count_miss}
use Rattle.cards.specs.Cards.{accesses, touches, or_nowhere, card_of}
use Rattle.cards.specs.Tally.{FIRST, LAST, counts_of, earlier, touched_in, Touchable, cell_of, Tallied, untasked, Tallyable, position_in, card_in}
use Rattle.cards.proofs.Touching.{touched_length, touched_other, touched_count, touched_first, touched_last}

-- ---- one position more

module _ (i : ℕ) (test : ℕ → Bool) where
  least_hit : test i ≡ true → cell_of (least_below (suc i) test) ≡ earlier (cell_of (least_below i test)) i
  unfolding least_below earlier
  least_hit e = rw e (by_case (least_below i test))
    where
      by_case : (o : Option ℕ) → cell_of (or_this o true i) ≡ earlier (cell_of o) i
      by_case none = omega arith
      by_case (some p) = rw (ne_eqb (suc p) 0 (omega arith))

  least_miss : test i ≡ false → cell_of (least_below (suc i) test) ≡ cell_of (least_below i test)
  unfolding least_below
  least_miss e = rw (e, or_this_failed)

  greatest_hit : test i ≡ true → cell_of (greatest_below (suc i) test) ≡ i + 1
  unfolding greatest_below
  greatest_hit e = rw e (omega arith)

  greatest_miss : test i ≡ false → cell_of (greatest_below (suc i) test) ≡ cell_of (greatest_below i test)
  unfolding greatest_below
  greatest_miss e = rw e

-- ---- one event more

module _ (tr : Trace) (i : ℕ) where
  abbrev k : ℕ
  k = tr.kind i

  abbrev a : ℕ
  a = tr.operand i

  accesses_here : accesses tr k a i ≡ true
  unfolding accesses
  accesses_here = rw (eq-eqb k k refl, eq-eqb a a refl)

  accesses_kind : (kind l : ℕ) → k ≢ kind → accesses tr kind l i ≡ false
  unfolding accesses
  accesses_kind kind l e = rw (ne_eqb k kind e)

  accesses_elsewhere : (l : ℕ) → a ≢ l → accesses tr k l i ≡ false
  unfolding accesses
  accesses_elsewhere l e = rw (eq-eqb k k refl, ne_eqb a l e)

  touches_here : is_access k ≡ true → touches tr a i ≡ true
  unfolding touches
  touches_here e = rw (e, eq-eqb a a refl)

  touches_elsewhere : (l : ℕ) → is_access k ≡ true → a ≢ l → touches tr l i ≡ false
  unfolding touches
  touches_elsewhere l e d = rw (e, ne_eqb a l d)

  touches_other : (l : ℕ) → is_access k ≡ false → touches tr l i ≡ false
  unfolding touches
  touches_other l e = rw e

  module _ (entry c : List ℕ) (h : Tallied tr i entry c) where
    -- An event that is no access changes nothing.
    other_tallied : is_access k ≡ false → Tallied tr (suc i) entry c
    other_tallied other =
        record {
          long = h.long;
          first = λ l s. h.first l s ∙ sym (least_miss i (touches tr l) (touches_other l other));
          last = λ l s. h.last l s ∙ sym (greatest_miss i (touches tr l) (touches_other l other));
          counts = λ kind l access s.
              h.counts kind l access s
              ∙ sym (count_miss i (accesses tr kind l) (accesses_kind kind l (λ e. true≢false (sym access ∙ (ap is_access (sym e) ∙ other)))));
          rest = h.rest;
        }

    -- An access.
    module _ (t : Touchable c k a i) where
      abbrev d : List ℕ
      d = touched_in c k a i

      few : index_of k < 3
      few = index_few k t.access

      first_next : (l : ℕ) → l < LOCATIONS → get_or d (FIRST + l) 0 ≡ cell_of (least_below (suc i) (touches tr l))
      first_next l s =
          let small = t.location in
          either (same_or_not a l)
          (λ e.
          subst (λ (m : ℕ). get_or d (FIRST + m) 0 ≡ cell_of (least_below (suc i) (touches tr m))) e
          (touched_first c k a i t ∙ (ap (λ (z : ℕ). earlier z i) (h.first a small) ∙ sym (least_hit i (touches tr a) (touches_here t.access)))))
          (λ e.
          touched_other c k a i t (FIRST + l) (omega arith) (λ q. e (omega arith)) (omega arith)
          ∙ (h.first l s ∙ sym (least_miss i (touches tr l) (touches_elsewhere l t.access e))))

      last_next : (l : ℕ) → l < LOCATIONS → get_or d (LAST + l) 0 ≡ cell_of (greatest_below (suc i) (touches tr l))
      last_next l s =
          let small = t.location in
          either (same_or_not a l)
          (λ e.
          subst (λ (m : ℕ). get_or d (LAST + m) 0 ≡ cell_of (greatest_below (suc i) (touches tr m))) e
          (touched_last c k a i t ∙ sym (greatest_hit i (touches tr a) (touches_here t.access))))
          (λ e.
          touched_other c k a i t (LAST + l) (omega arith) (omega arith) (λ q. e (omega arith))
          ∙ (h.last l s ∙ sym (greatest_miss i (touches tr l) (touches_elsewhere l t.access e))))

      -- The count of its own kind at its own location is one more, and no other count changes.
      own_kind : (l : ℕ) → l < LOCATIONS → get_or d (counts_of k + l) 0 ≡ count_below (suc i) (accesses tr k l)
      own_kind l s =
          let small = t.location in
          let three = few in
          either (same_or_not a l)
          (λ e.
          subst (λ (m : ℕ). get_or d (counts_of k + m) 0 ≡ count_below (suc i) (accesses tr k m)) e
          (touched_count c k a i t ∙ (ap (λ (z : ℕ). z + 1) (h.counts k a t.access small) ∙ sym (count_hit i (accesses tr k a) accesses_here))))
          (λ e.
          touched_other c k a i t (counts_of k + l) (λ q. e (omega arith)) (omega arith) (omega arith)
          ∙ (h.counts k l t.access s ∙ sym (count_miss i (accesses tr k l) (accesses_elsewhere l e))))

      other_kind : (kind l : ℕ) → is_access kind ≡ true → k ≢ kind → l < LOCATIONS → get_or d (counts_of kind + l) 0 ≡ count_below (suc i) (accesses tr kind l)
      other_kind kind l access apart s =
          let small = t.location in
          touched_other c k a i t (counts_of kind + l) (λ q. index_apart k kind t.access access apart (omega arith)) (omega arith) (omega arith)
          ∙ (h.counts kind l access s ∙ sym (count_miss i (accesses tr kind l) (accesses_kind kind l apart)))

      access_tallied : Tallied tr (suc i) entry d
      access_tallied =
          record {
            long = touched_length c k a i t ∙ h.long;
            first = first_next;
            last = last_next;
            counts = λ kind l access s.
                either (same_or_not k kind)
                (λ e. subst (λ (m : ℕ). get_or d (counts_of m + l) 0 ≡ count_below (suc i) (accesses tr m l)) e (own_kind l s))
                (λ apart. other_kind kind l access apart s);
            rest = λ j s.
                let small = t.location in
                let three = few in
                touched_other c k a i t j (omega arith) (omega arith) (omega arith) ∙ h.rest j s;
          }

-- ---- the turns of the loop

module _ (kinds operands entry : List ℕ) (ok : Tallyable kinds operands entry) where
  abbrev tr : Trace
  tr = untasked kinds operands

  pub tally_none : Tallied tr 0 entry entry
  unfolding count_below least_below greatest_below
  tally_none =
      record {
        long = refl;
        first = λ l s. ok.zeros (FIRST + l) (omega arith);
        last = λ l s. ok.zeros (LAST + l) (omega arith);
        counts = λ kind l access s. let three = index_few kind access in ok.zeros (counts_of kind + l) (omega arith);
        rest = λ j s. refl;
      }

  module _ (i : ℕ) (c : List ℕ) (h : Tallied tr i entry c) (below : i < length kinds) where
    pub tally_asks : is_access (get_or kinds i 0) ≡ true → Touchable c (get_or kinds i 0) (get_or operands i 0) i
    unfolding trace_of
    tally_asks access =
        let few = ok.few in
        let room = ok.room in
        let long = h.long in
        let small = ok.locations i below access in
        record {
          access = access;
          location = small;
          room = omega arith;
          few = omega (arith, h.counts (get_or kinds i 0) (get_or operands i 0) access small, count_le i (accesses tr (get_or kinds i 0) (get_or operands i 0)));
          position = omega arith;
        }

    pub tally_access : is_access (get_or kinds i 0) ≡ true → (d : List ℕ) → d ≡ touched_in c (get_or kinds i 0) (get_or operands i 0) i → Tallied tr (i + 1) entry d
    unfolding trace_of
    tally_access access d e = rw (e, add-one i) (access_tallied tr i entry c h (tally_asks access))

    pub tally_other : is_access (get_or kinds i 0) ≡ false → Tallied tr (i + 1) entry c
    unfolding trace_of
    tally_other other = rw (add-one i) (other_tallied tr i entry c h other)

-- ---- the card off the tables

position_cell : (o : Option ℕ) → position_in (cell_of o) ≡ or_nowhere o
unfolding position_in or_nowhere
position_cell none = refl
position_cell (some p) = rw (ne_eqb (suc p) 0 (omega arith)) (omega arith)

-- It is the location's card, whatever tasks act.
pub card_is : (kinds tasks operands : List ℕ) (n : ℕ) (entry c : List ℕ) → Tallied (untasked kinds operands) n entry c → (l : ℕ) → l < LOCATIONS
    → card_in c l ≡ card_of (trace_of kinds tasks operands) n l
unfolding card_in card_of trace_of accesses touches is_access
card_is kinds tasks operands n entry c h l s =
    let first = ap position_in (h.first l s) ∙ position_cell (least_below n (touches (untasked kinds operands) l)) in
    let last = ap position_in (h.last l s) ∙ position_cell (greatest_below n (touches (untasked kinds operands) l)) in
    cc (h.counts READ l refl s, h.counts WRITE l refl s, h.counts SUM l refl s, first, last)
