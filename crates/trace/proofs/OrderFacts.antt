-- What the definitions of `Orders` mean, said another way, for a reader who doubts them: an order of n events has n entries; what stands before an
-- event are the entries with a lower place; what a read sees is the latest write to its location among these, or none where there is none;
-- a location's last write is the latest write to it, or none where there is none; the sums since are those that stand after its last write, or all where there
-- is none; and the trace's own order is an order that keeps all arcs. Assumes nothing.
use Prim.Native.Nat.{ℕ, zero, suc, ◌+◌, ◌<◌, ◌≤◌}
use native.Mathlib.Omega.{arith}
use mathlib.Core.Path.{◌≡◌, refl, sym, ap, ◌∙◌}
use mathlib.Core.Logic.{◌⊎◌, inl, inr, ◌↔◌, ◌≢◌}
use mathlib.Core.Bool.{Bool, true, true≢false}
use mathlib.Core.List.{List, [], ◌∷◌}
use mathlib.Core.Option.{none, some}
use lib.ListN.{length}
use Rattle.trace.specs.Trace.{Trace, WRITE, SUM}
use Rattle.trace.specs.Orders.{occurrences, Order, place, KeepsArcs, positions, before, latest, writes, sums, last_write, SumSince, sees}
use Rattle.trace.proofs.Tests.{Tests, by_test, either, same_or_not, lt_or_le, test_and, test_eq}
use Rattle.trace.proofs.Paths.{Forward}
use Rattle.trace.proofs.Lists.{one_if_same, one_if_other, occurrences_before_le, occurrences_count_up_inside, occurrences_count_up_above}
use Rattle.trace.proofs.Lists.{place_injective, place_lt_of_before, before_of_place_lt, place_before, rising_place, rising_count_up}
use Rattle.trace.proofs.Lists.{Last, latest_some_iff, latest_none_iff}

-- ---- the entries of an order

module _ (n : ℕ) (o : List ℕ) (order : Order n o) where
  -- Each entry is an event.
  pub order_inside : (p : ℕ) → 0 < occurrences p o → p < n
  order_inside p c = either (lt_or_le p n) (λ l. l) (λ l. absurd (omega (arith, order.no_other p l)))

  -- No event comes twice.
  pub order_at_most_once : (p : ℕ) → occurrences p o ≤ 1
  order_at_most_once p =
      either (lt_or_le p n) (λ l. omega (arith, order.once p l)) (λ l. omega (arith, order.no_other p l))

-- The trace's own order is an order.
pub positions_order : (n : ℕ) → Order n (positions n)
positions_order n =
    record {
      once = λ p l. occurrences_count_up_inside p 0 n (omega arith) (omega arith);
      no_other = λ p l. occurrences_count_up_above p 0 n (omega arith);
    }

-- Two orders of the same events have the same entries.
pub orders_same_entries : (n : ℕ) (o o' : List ℕ) → Order n o → Order n o' → (p : ℕ) → occurrences p o ≡ occurrences p o'
orders_same_entries n o o' order order' p =
    either (lt_or_le p n) (λ l. order.once p l ∙ sym (order'.once p l)) (λ l. order.no_other p l ∙ sym (order'.no_other p l))

-- How many entries of a list are below n.
entries_below : ℕ → List ℕ → ℕ
entries_below zero o = 0
entries_below (suc n) o = occurrences n o + entries_below n o

entries_below_nil : (n : ℕ) → entries_below n [] ≡ 0
unfolding entries_below
entries_below_nil zero = refl
entries_below_nil (suc n) = omega (arith, entries_below_nil n)

entries_below_above : (n x : ℕ) (o : List ℕ) → n ≤ x → entries_below n (x ∷ o) ≡ entries_below n o
unfolding entries_below
entries_below_above zero x o h = refl
entries_below_above (suc n) x o h = omega (arith, one_if_other x n (λ e. omega arith), entries_below_above n x o (omega arith))

entries_below_below : (n x : ℕ) (o : List ℕ) → x < n → entries_below n (x ∷ o) ≡ suc (entries_below n o)
unfolding entries_below
entries_below_below zero x o h = absurd (omega arith)
entries_below_below (suc n) x o h =
    either (same_or_not x n) (λ e. omega (arith, one_if_same x n e, entries_below_above n x o (omega arith)))
    (λ d. omega (arith, one_if_other x n d, entries_below_below n x o (omega arith)))

entries_below_all : (n : ℕ) (o : List ℕ) → ((p : ℕ) → n ≤ p → occurrences p o ≡ 0) → entries_below n o ≡ length o
entries_below_all n [] h = entries_below_nil n
entries_below_all n (x ∷ o) h =
    either (lt_or_le x n) (λ l. entries_below_below n x o l ∙ ap suc (entries_below_all n o (λ p k. omega (arith, h p k))))
    (λ l. absurd (omega (arith, h x l, one_if_same x x refl)))

entries_below_once : (n : ℕ) (o : List ℕ) → ((p : ℕ) → p < n → occurrences p o ≡ 1) → entries_below n o ≡ n
unfolding entries_below
entries_below_once zero o h = refl
entries_below_once (suc n) o h = omega (arith, h n (omega arith), entries_below_once n o (λ p l. h p (omega arith)))

-- An order of n events has n entries.
pub order_length : (n : ℕ) (o : List ℕ) → Order n o → length o ≡ n
order_length n o order = sym (entries_below_all n o order.no_other) ∙ entries_below_once n o order.once

-- ---- before an event, and what a read sees

-- What stands before r are the entries with a lower place.
pub before_iff : (p r : ℕ) (o : List ℕ) → (0 < occurrences p (before r o)) ↔ (place p o < place r o)
before_iff p r o = (place_lt_of_before p r o, before_of_place_lt p r o)

-- An event writes a location exactly if it is a write and the location is its operand.
pub test_writes : (tr : Trace) (l p : ℕ) → Tests (writes tr l p) ((tr.kind p ≡ WRITE) × (tr.operand p ≡ l))
unfolding writes
test_writes tr l p = test_and _ _ (test_eq (tr.kind p) WRITE) (test_eq (tr.operand p) l)

-- It adds to a location exactly if it is a sum and the location is its operand.
pub test_sums : (tr : Trace) (l p : ℕ) → Tests (sums tr l p) ((tr.kind p ≡ SUM) × (tr.operand p ≡ l))
unfolding sums
test_sums tr l p = test_and _ _ (test_eq (tr.kind p) SUM) (test_eq (tr.operand p) l)

-- No event does both.
pub sum_no_write : (tr : Trace) (l u w : ℕ) → sums tr l u ≡ true → writes tr l w ≡ true → w ≢ u
sum_no_write tr l u w sum write same =
    omega (arith, ((test_sums tr l u).0 sum).0, ((test_writes tr l w).0 write).0, ap tr.kind same)

-- In the order o, w writes the location of r and comes earlier than r.
pub record EarlierWrite (tr : Trace) (o : List ℕ) (r w : ℕ) : Type 0 where
  pub write : tr.kind w ≡ WRITE
  pub one_location : tr.operand w ≡ tr.operand r
  pub earlier : place w o < place r o

-- It is the latest such write.
pub record LatestEarlierWrite (tr : Trace) (o : List ℕ) (r w : ℕ) : Type 0 where
  pub is_earlier : EarlierWrite tr o r w
  pub none_later : (v : ℕ) → EarlierWrite tr o r v → place v o ≤ place w o

module _ (tr : Trace) (n : ℕ) (o : List ℕ) (order : Order n o) (r : ℕ) where
  abbrev passed : ℕ → Bool
  passed = writes tr (tr.operand r)

  to_earlier : (w : ℕ) → passed w ≡ true → 0 < occurrences w (before r o) → EarlierWrite tr o r w
  to_earlier w e c =
      let fact = (test_writes tr (tr.operand r) w).0 e in
      record { write = fact.0; one_location = fact.1; earlier = place_lt_of_before w r o c }

  from_earlier : (w : ℕ) → EarlierWrite tr o r w → (passed w ≡ true) × (0 < occurrences w (before r o))
  from_earlier w h =
      ((test_writes tr (tr.operand r) w).1 (h.write, h.one_location), before_of_place_lt w r o h.earlier)

  once_before : (q : ℕ) → occurrences q (before r o) ≤ 1
  once_before q = omega (arith, occurrences_before_le q r o, order_at_most_once n o order q)

  -- A read sees w exactly if w is the latest earlier write to its location.
  pub sees_some_iff : (w : ℕ) → (sees tr o r ≡ some w) ↔ LatestEarlierWrite tr o r w
  sees_some_iff w = (λ e. forth (last.0 e), λ h. last.1 (back h))
    where
      last : (sees tr o r ≡ some w) ↔ Last passed (before r o) w
      last = latest_some_iff passed (before r o) once_before w

      forth : Last passed (before r o) w → LatestEarlierWrite tr o r w
      forth h =
          record {
            is_earlier = to_earlier w h.passed h.entry;
            none_later = λ v earlier.
                let found = from_earlier v earlier in
                omega (arith, h.none_later v found.0 found.1, place_before v r o found.1, place_before w r o h.entry);
          }

      back : LatestEarlierWrite tr o r w → Last passed (before r o) w
      back h =
          let found = from_earlier w h.is_earlier in
          record {
            passed = found.0;
            entry = found.1;
            none_later = λ v e c.
                omega (arith, h.none_later v (to_earlier v e c), place_before v r o c, place_before w r o found.1);
          }

  -- A read sees no write exactly if there is no earlier write to its location.
  pub sees_none_iff : (sees tr o r ≡ none) ↔ ((w : ℕ) → EarlierWrite tr o r w → ⊥)
  sees_none_iff =
      let none_passed = latest_none_iff passed (before r o) in (
        λ e w h. let found = from_earlier w h in true≢false (sym found.0 ∙ none_passed.0 e w found.1),
        λ h. none_passed.1 (λ w c. by_test (passed w) (λ e. absurd (h w (to_earlier w e c))) (λ e. e)),
      )

-- ---- a location's last write

-- Among the first n events, w writes the location l.
pub record WriteOf (tr : Trace) (n l w : ℕ) : Type 0 where
  pub write : tr.kind w ≡ WRITE
  pub location : tr.operand w ≡ l
  pub inside : w < n

-- In the order o it is the latest such write.
pub record LatestWrite (tr : Trace) (n : ℕ) (o : List ℕ) (l w : ℕ) : Type 0 where
  pub is_write : WriteOf tr n l w
  pub none_later : (v : ℕ) → WriteOf tr n l v → place v o ≤ place w o

module _ (tr : Trace) (n : ℕ) (o : List ℕ) (order : Order n o) (l : ℕ) where
  to_write : (w : ℕ) → writes tr l w ≡ true → 0 < occurrences w o → WriteOf tr n l w
  to_write w e c =
      let fact = (test_writes tr l w).0 e in record { write = fact.0; location = fact.1; inside = order_inside n o order w c }

  from_write : (w : ℕ) → WriteOf tr n l w → (writes tr l w ≡ true) × (0 < occurrences w o)
  from_write w h = ((test_writes tr l w).1 (h.write, h.location), omega (arith, order.once w h.inside))

  -- A location's last write is w exactly if w is the latest write to it.
  pub last_write_some_iff : (w : ℕ) → (last_write tr o l ≡ some w) ↔ LatestWrite tr n o l w
  last_write_some_iff w =
      let last = latest_some_iff (writes tr l) o (order_at_most_once n o order) w in (
        λ e.
            let h = last.0 e in
            record {
              is_write = to_write w h.passed h.entry;
              none_later = λ v write. let found = from_write v write in h.none_later v found.0 found.1;
            },
        λ h.
            let found = from_write w h.is_write in
            last.1 (record { passed = found.0; entry = found.1; none_later = λ v e c. h.none_later v (to_write v e c) }),
      )

  -- It has no last write exactly if there is no write to it.
  pub last_write_none_iff : (last_write tr o l ≡ none) ↔ ((w : ℕ) → WriteOf tr n l w → ⊥)
  last_write_none_iff =
      let none_passed = latest_none_iff (writes tr l) o in (
        λ e w h. let found = from_write w h in true≢false (sym found.0 ∙ none_passed.0 e w found.1),
        λ h. none_passed.1 (λ w c. by_test (writes tr l w) (λ e. absurd (h w (to_write w e c))) (λ e. e)),
      )

-- ---- the sums since

module _ (tr : Trace) (o : List ℕ) (once : (p : ℕ) → occurrences p o ≤ 1) (l u : ℕ) where
  -- Where the location has a last write, they are its sums that stand after that write;
  pub sums_after_write :
      (w : ℕ) → last_write tr o l ≡ some w
      → SumSince tr o l u ↔ ((sums tr l u ≡ true) × (0 < occurrences u o) × (place w o < place u o))
  sums_after_write w e =
      let last = (latest_some_iff (writes tr l) o once w).0 e in (
        λ h. (h.sum, h.listed, h.after_writes w last.passed last.entry),
        λ h.
            let after = h.2 in
            record { sum = h.0; listed = h.1; after_writes = λ v write listed. omega (arith, last.none_later v write listed) },
      )

  -- where it has none, all its sums.
  pub sums_no_write : last_write tr o l ≡ none → SumSince tr o l u ↔ ((sums tr l u ≡ true) × (0 < occurrences u o))
  sums_no_write e = (
    λ h. (h.sum, h.listed),
    λ h.
        record {
          sum = h.0;
          listed = h.1;
          after_writes = λ w write listed. absurd (true≢false (sym write ∙ (latest_none_iff (writes tr l) o).0 e w listed));
        },
  )

  -- A sum is one of them exactly if it is the latest of the location's writes and itself.
  pub since_latest :
      sums tr l u ≡ true → (test : ℕ → Bool) → ((p : ℕ) → Tests (test p) ((writes tr l p ≡ true) ⊎ (p ≡ u)))
      → SumSince tr o l u ↔ (latest test o ≡ some u)
  since_latest sum test tests =
      let last = latest_some_iff test o once u in (
        λ h.
            last.1
            (record {
              passed = (tests u).1 (inr refl);
              entry = h.listed;
              none_later = λ p passed listed.
                  either ((tests p).0 passed) (λ write. omega (arith, h.after_writes p write listed))
                  (λ same. omega (arith, ap (λ (z : ℕ). place z o) same));
            }),
        λ e.
            let h = last.0 e in
            record {
              sum = sum;
              listed = h.entry;
              after_writes = λ w write listed.
                  let no-later = h.none_later w ((tests w).1 (inl write)) listed in
                  let apart : place w o ≢ place u o = λ same. sum_no_write tr l u w sum write (place_injective w u o listed same) in
                  omega arith;
            },
      )

-- ---- the trace's own order

-- Where arcs lead forward, the trace's own order keeps all of them.
pub positions_keeps : (tr : Trace) (graph n : ℕ) → Forward tr graph → KeepsArcs tr graph n (positions n)
positions_keeps tr graph n forward =
    record {
      earlier = λ p q lp lq arc.
          let inside-p = (positions_order n).once p lp in
          let inside-q = (positions_order n).once q lq in
          rising_place p q (positions n) (rising_count_up 0 n) (forward p q arc) (omega arith) (omega arith);
    }
