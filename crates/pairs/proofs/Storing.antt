-- The events of a stretch that pass a test, counted, and stored one after the other where each event is stored and the next one over it if it fails. Nothing here
-- is of traces. Assumes nothing.
use Prim.Native.Nat.{ℕ, ◌+◌, ◌-◌, max, ◌<◌, ◌≤◌}
use mathlib.Core.Path.{◌≡◌, refl, sym, ap, subst, ◌∙◌}
use mathlib.Core.Bool.{Bool, true, false}
use mathlib.Core.List.{List, [], ◌∷◌, ◌++◌, append-nil, append_assoc, map}
use native.Mathlib.Omega.{arith}
use lib.Dec.{eqb}
use lib.ListN.{length, get_or, set, replicate, take, length-set, length-append, length-replicate, length-take, length-drop, get_or-append, get_or-replicate}
use lib.Seq.{sets, sets-eq, drop-drop, ext_get_or, get_or-drop, get_or-take, get_or-append-add, get_or-set_same, get_or-set_other, length-sets}
use mir.Val.{bool_byte}
use borrow.Rule.Slice.PartMut.{put_mid}
use Rattle.cells.specs.Cells.{Filled}
use Rattle.trace.specs.Orders.{count_up, chosen}
use Rattle.pairs.specs.Pairs.{CLOSE}
use Rattle.trace.proofs.Tests.{either, same_or_not, lt_or_le}
use Rattle.ranks.proofs.Leaves.{bit_few}
use Rattle.trace.proofs.Lists.{select_append, count_up_append, chosen_none, chosen_empty, chosen_passed, chosen_failed, sets_append, drop_sets}

pub no_length : {A : Type 0} (l : List A) → length l ≡ 0 → l ≡ []
no_length [] h = refl
no_length (x ∷ l) h = absurd (omega arith)

-- ---- stretches

module _ (test : ℕ → Bool) (from : ℕ) where
  chosen_append : (to k : ℕ) → from ≤ to → chosen test from (to + k) ≡ chosen test from to ++ chosen test to (to + k)
  unfolding chosen
  chosen_append to k low =
      let e : to + k - from ≡ (to - from) + k = omega arith in
      let f : from + (to - from) ≡ to = omega arith in
      let g : to + k - to ≡ k = omega arith in
      rw (e, g, count_up_append from (to - from) k, f) (select_append test (count_up from (to - from)) (count_up to k))

  -- A longer stretch has no fewer,
  chosen_grows : (to s : ℕ) → to ≤ s → length (chosen test from to) ≤ length (chosen test from s)
  chosen_grows to s h =
      either (lt_or_le to from) (λ l. omega (arith, ap length (chosen_empty test from to (omega arith))))
      (λ l.
      let e : to + (s - to) ≡ s = omega arith in
      omega
      (arith, ap length (ap (chosen test from) (sym e) ∙ chosen_append to (s - to) l), length-append (chosen test from to) (chosen test to (to + (s - to)))))

  -- and where it has as many, the same.
  pub chosen_all : (s to : ℕ) → from ≤ s → s ≤ max from to → length (chosen test from s) ≡ length (chosen test from to) → chosen test from s ≡ chosen test from to
  chosen_all s to low high same =
      either (lt_or_le to s)
      (λ l. let e : s ≡ from = omega arith in rw e (chosen_none test from ∙ sym (chosen_empty test from to (omega arith))))
      (λ l.
      let e : s + (to - s) ≡ to = omega arith in
      let whole : chosen test from to ≡ chosen test from s ++ chosen test s (s + (to - s)) = ap (chosen test from) (sym e) ∙ chosen_append s (to - s) low in
      let none : chosen test s (s + (to - s)) ≡ [] =
      no_length _ (omega (arith, ap length whole, length-append (chosen test from s) (chosen test s (s + (to - s))))) in
      sym (whole ∙ (ap (λ (l : List ℕ). chosen test from s ++ l) none ∙ append-nil (chosen test from s))))

  -- Where fewer are found than there are, the end is not reached.
  pub chosen_more : (s to : ℕ) → length (chosen test from s) < length (chosen test from to) → s < to
  chosen_more s to h = either (lt_or_le s to) (λ l. l) (λ l. absurd (omega (arith, chosen_grows to s l)))

  -- ---- the count

  pub counted_none : 0 ≡ length (chosen test from from)
  counted_none = omega (arith, ap length (chosen_none test from))

  pub counted_more : (b : Bool) (count s : ℕ) → b ≡ test s → from ≤ s → count ≡ length (chosen test from s) → count + bool_byte b ≡ length (chosen test from (s + 1))
  counted_more true count s e low c =
      omega (arith, ap length (chosen_passed test from s low (sym e)), length-append (chosen test from s) (s ∷ []))
  counted_more false count s e low c = omega (arith, ap length (chosen_failed test from s low (sym e)))

  pub counted_end : (count s to : ℕ) → from ≤ s → s ≤ max from to → to ≤ s → count ≡ length (chosen test from s) → count ≡ length (chosen test from to)
  counted_end count s to low high end c =
      either (lt_or_le to from)
      (λ l. let e : s ≡ from = omega arith in omega (arith, ap length (ap (chosen test from) e ∙ chosen_none test from), ap length (chosen_empty test from to (omega arith))))
      (λ l. let e : s ≡ to = omega arith in rw (← e) c)

-- ---- the loop that marks: before each turn the events up to s are marked and counted

pub record Marking (test : ℕ → Bool) (from to : ℕ) (marks : List ℕ) (count s : ℕ) : Type 0 where
  pub low : from ≤ s
  pub high : s ≤ max from to
  pub long : length marks ≡ CLOSE
  pub each : (p : ℕ) → from ≤ p → p < s → get_or marks (p - from) 0 ≡ bool_byte (test p)
  pub counted : count ≡ length (chosen test from s)
  pub few : count + from ≤ s

pub marking_begins : (test : ℕ → Bool) (from to : ℕ) (marks : List ℕ) → length marks ≡ CLOSE → Marking test from to marks 0 from
marking_begins test from to marks long =
    record {
      low = omega arith;
      high = omega arith;
      long = long;
      each = λ p low less. absurd (omega arith);
      counted = counted_none test from;
      few = omega arith;
    }

module _ {test : ℕ → Bool} {from to : ℕ} {marks : List ℕ} {count s : ℕ} (m : Marking test from to marks count s) (near : to ≤ from + CLOSE) where
  pub marking_more : (b : Bool) → b ≡ test s → s < to → Marking test from to (set marks (s - from) (bool_byte b)) (count + bool_byte b) (s + 1)
  marking_more b e inside =
      let low = m.low in
      let long = m.long in
      let few = m.few in
      let bit = bit_few b in
      record {
        low = omega arith;
        high = omega arith;
        long = length-set marks (s - from) (bool_byte b) ∙ m.long;
        each = λ p before less.
            either (same_or_not p s) (λ same. rw (same, ← e) (get_or-set_same marks (s - from) (bool_byte b) 0 (omega arith)))
            (λ other. get_or-set_other marks (s - from) (p - from) (bool_byte b) 0 (λ q. omega arith) ∙ m.each p before (omega arith));
        counted = counted_more test from b count s e low m.counted;
        few = omega arith;
      }

  pub marking_ends :
      to ≤ s
      → ((p : ℕ) → from ≤ p → p < to → get_or marks (p - from) 0 ≡ bool_byte (test p)) × ((count ≡ length (chosen test from to)) × (count ≤ CLOSE))
  marking_ends end =
      let few = m.few in
      let high = m.high in
      (λ p low less. m.each p low (omega arith), (counted_end test from count s to m.low high end m.counted, omega arith))

-- ---- the store

-- Of a slice that held e, the cells from `at` on hold xs, those from `end` on are as they were, and between nothing is said.
pub record Stores (e : List ℕ) (at end : ℕ) (xs l : List ℕ) : Type 0 where
  pub long : length l ≡ length e
  pub below : (q : ℕ) → q < at + length xs → get_or l q 0 ≡ get_or (sets e at xs) q 0
  pub beyond : (q : ℕ) → end ≤ q → get_or l q 0 ≡ get_or e q 0

pub stores_none : (e : List ℕ) (at end : ℕ) → Stores e at end [] e
stores_none e at end = record { long = refl; below = λ q h. refl; beyond = λ q h. refl }

module _ {e : List ℕ} {at end : ℕ} {xs l : List ℕ} (s : Stores e at end xs l) (i : ℕ) (place : i ≡ at + length xs) where
  -- What is stored at the end of xs may be stored over,
  pub stores_spare : i < end → (v : ℕ) → Stores e at end xs (set l i v)
  stores_spare more v =
      record {
        long = length-set l i v ∙ s.long;
        below = λ q h. get_or-set_other l i q v 0 (omega arith) ∙ s.below q h;
        beyond = λ q h. get_or-set_other l i q v 0 (omega arith) ∙ s.beyond q h;
      }

  -- or is part of it.
  pub stores_more : i < end → end ≤ length e → (v : ℕ) → Stores e at end (xs ++ (v ∷ [])) (set l i v)
  stores_more more room v =
      let long = s.long in
      let grown = length-append xs (v ∷ []) in
      let target : sets e at (xs ++ (v ∷ [])) ≡ set (sets e at xs) i v = rw place (sets_append xs (v ∷ []) e at) in
      record {
        long = length-set l i v ∙ s.long;
        below = λ q h.
            rw target
            (either (same_or_not q i)
            (λ same.
            rw same
            (get_or-set_same l i v 0 (omega arith) ∙ sym (get_or-set_same (sets e at xs) i v 0 (omega (arith, length-sets e at xs)))))
            (λ other.
            get_or-set_other l i q v 0 other ∙ (s.below q (omega arith) ∙ sym (get_or-set_other (sets e at xs) i q v 0 other))));
        beyond = λ q h. get_or-set_other l i q v 0 (omega arith) ∙ s.beyond q h;
      }

  -- Once all cells are filled, that is the list stored.
  pub stores_done : i ≡ end → l ≡ sets e at xs
  stores_done full =
      ext_get_or 0 l (sets e at xs) (s.long ∙ sym (length-sets e at xs))
      (λ q h.
      either (lt_or_le q i) (λ low. s.below q (omega arith))
      (λ high.
      let f : i + (q - i) ≡ q = omega arith in
      s.beyond q (omega arith)
      ∙ (ap (λ (k : ℕ). get_or e k 0) (sym f)
      ∙ (sym (get_or-drop i e (q - i) 0)
      ∙ (ap (λ (z : List ℕ). get_or z (q - i) 0) (sym (drop_sets xs e at i (omega arith)))
      ∙ (get_or-drop i (sets e at xs) (q - i) 0 ∙ ap (λ (k : ℕ). get_or (sets e at xs) k 0) f))))))

-- ---- the loop that stores: before each turn those up to s are stored, and i is past them

pub record Writing (test : ℕ → Bool) (from to : ℕ) (entry : List ℕ) (at end : ℕ) (l : List ℕ) (i s : ℕ) : Type 0 where
  pub low : from ≤ s
  pub high : s ≤ max from to
  pub place : i ≡ at + length (chosen test from s)
  pub within : i ≤ end
  -- events are left where cells are
  pub inside : i < end → s < to
  pub held : Stores entry at end (chosen test from s) l

pub writing_begins :
    (test : ℕ → Bool) (from to : ℕ) (entry : List ℕ) (at end : ℕ) → end ≡ at + length (chosen test from to)
    → Writing test from to entry at end entry at from
writing_begins test from to entry at end all =
    let none = chosen_none test from in
    record { low = omega arith; high = omega arith; place = omega (arith, ap length none); within = omega arith; inside = λ more. chosen_more test from from to (omega (arith, ap length none)); held = rw none (stores_none entry at end) }

module _ {test : ℕ → Bool} {from to : ℕ} {entry : List ℕ} {at end : ℕ} {l : List ℕ} {i s : ℕ} (w : Writing test from to entry at end l i s)
    (all : end ≡ at + length (chosen test from to)) where
  -- The next event is stored, and stored over if it fails;
  pub writing_more :
      (b : Bool) → b ≡ test s → i < end → end ≤ length entry → Writing test from to entry at end (set l i s) (i + bool_byte b) (s + 1)
  writing_more b e more room =
      let low = w.low in
      let place = w.place in
      let inside = w.inside more in
      let few = bit_few b in
      let next : i + bool_byte b ≡ at + length (chosen test from (s + 1)) = omega (arith, counted_more test from b (length (chosen test from s)) s e low refl) in
      record {
        low = omega arith;
        high = omega arith;
        place = next;
        within = omega arith;
        inside = λ left. chosen_more test from (s + 1) to (omega arith);
        held = stored b e;
      }
    where
      stored : (b : Bool) → b ≡ test s → Stores entry at end (chosen test from (s + 1)) (set l i s)
      stored true e = rw (chosen_passed test from s w.low (sym e)) (stores_more w.held i w.place more room s)
      stored false e = rw (chosen_failed test from s w.low (sym e)) (stores_spare w.held i w.place more s)

  -- and in the end all are stored that pass.
  pub writing_ends : end ≤ i → l ≡ sets entry at (chosen test from to)
  writing_ends done =
      let within = w.within in
      let place = w.place in
      let whole = chosen_all test from s to w.low w.high (omega arith) in
      rw (← whole) (stores_done w.held i place (omega arith))

-- A mark is 1 or 0, as its test says: it can be added in place of it.
bit_of : (v : ℕ) → v ≤ 1 → v ≡ bool_byte (eqb v 1)
bit_of v few = either (same_or_not v 1) (λ e. rw e) (λ d. let none : v ≡ 0 = omega arith in rw none)

pub writing_marked :
    {test : ℕ → Bool} {from to : ℕ} {entry : List ℕ} {at end : ℕ} {l : List ℕ} {i s : ℕ} (v : ℕ) → Writing test from to entry at end l i s
    → end ≡ at + length (chosen test from to) → eqb v 1 ≡ test s → v ≤ 1 → i < end → end ≤ length entry
    → Writing test from to entry at end (set l i s) (i + v) (s + 1)
writing_marked {test} {from} {to} {entry} {at} {end} {l} {i} {s} v w all e few more room =
    subst (λ (z : ℕ). Writing test from to entry at end (set l i s) (i + z) (s + 1)) (sym (bit_of v few)) (writing_more w all (eqb v 1) e more room)

-- ---- one value in a row of cells

-- A part of a slice after `fill`:
module _ (l : List ℕ) (at k v : ℕ) (room : at + k ≤ length l) where
  -- the value is stored k times,
  pub fill_sets : put_mid at k l (replicate k v) ≡ sets l at (replicate k v)
  fill_sets =
      let fits : at + length (replicate k v) ≤ length l = rw length-replicate room in
      sym (sets-eq (replicate k v) l at fits ∙ simp (length-replicate, drop-drop, append_assoc))

  -- and each of the k cells has it.
  pub fill_filled : Filled at k (λ i. v) l (put_mid at k l (replicate k v))
  fill_filled =
      let front : length (take at l) ≡ at = simp length-take (omega arith) in
      record {
        long = simp (length-append, length-replicate, length-drop, length-take) (omega arith);
        filled = λ i h.
            ap (λ (n : ℕ). get_or (put_mid at k l (replicate k v)) (n + i) 0) (sym front)
            ∙ get_or-append-add (take at l) _ i 0
            ∙ get_or-append (replicate k v) _ 0 i (rw length-replicate h)
            ∙ get_or-replicate k i v 0 h;
        same = λ i h. either h
            (λ low. get_or-append (take at l) _ 0 i (rw front low) ∙ get_or-take at l i 0 low)
            (λ high.
            let e : at + (k + (i - at - k)) ≡ i = omega arith in
            let there : length (take at l) + (length (replicate k v) + (i - at - k)) ≡ i = rw (front, length-replicate) e in
            ap (λ (n : ℕ). get_or (put_mid at k l (replicate k v)) n 0) (sym there)
            ∙ get_or-append-add (take at l) _ _ 0
            ∙ get_or-append-add (replicate k v) _ _ 0
            ∙ get_or-drop k _ _ 0
            ∙ get_or-drop at l _ 0
            ∙ ap (λ (n : ℕ). get_or l n 0) e);
      }

pub map_replicate : (xs : List ℕ) (t : ℕ) → map (λ s. t) xs ≡ replicate (length xs) t
map_replicate [] t = refl
map_replicate (x ∷ xs) t = ap (λ (z : List ℕ). t ∷ z) (map_replicate xs t)
