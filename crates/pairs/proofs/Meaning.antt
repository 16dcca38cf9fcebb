-- WHAT THE LIST IS. A pair is in it exactly if its two accesses race and are at most 256 events apart, and it rises by t and then by s; so two such lists have the
-- same number of pairs. Assumes nothing.
use Prim.Native.Nat.{ℕ, zero, suc, ◌+◌, ◌-◌, ◌<◌, ◌≤◌}
use mathlib.Core.Path.{◌≡◌, refl, sym, ap, ap₂, ◌∙◌}
use mathlib.Core.Bool.{Bool, true}
use mathlib.Core.List.{List, [], ◌∷◌, ◌++◌, map}
use mathlib.Core.Logic.{◌⊎◌, inl, inr, ◌↔◌}
use native.Mathlib.Omega.{arith}
use lib.ListN.{length, get_or}
use Rattle.trace.specs.Trace.{Trace}
use Rattle.trace.specs.Line.{halt_operand}
use Rattle.trace.specs.Orders.{occurrences, Rising, chosen}
use Rattle.trace.specs.Search.{race?}
use Rattle.trace.specs.Race.{Race}
use Rattle.trace.specs.Demands.{KeepsRules}
use Rattle.trace.proofs.Tests.{either, same_or_not, lt_or_le}
use Rattle.trace.proofs.Lists.{one_if_same, one_if_other, chosen_iff, chosen_rises}
use Rattle.trace.proofs.Forward.{forward}
use Rattle.trace.proofs.Searches.{test_race}
use Rattle.pairs.specs.Pairs.{CLOSE, Pair, pair, pairs_at, pairs_below, close_pairs, Slices}
use Rattle.pairs.specs.Demands.{Entry, ClosePairs}

-- ---- lists of pairs

-- p is in a list.
abbrev Member : Pair → List Pair → Type 0
Member p [] = ⊥
Member p (x ∷ xs) = (x ≡ p) ⊎ Member p xs

-- x comes before y: by t, and then by s.
abbrev Before : Pair → Pair → Type 0
Before x y = (x.t < y.t) ⊎ ((x.t ≡ y.t) × (x.s < y.s))

-- Each pair comes before all that follow it.
abbrev RisingPairs : List Pair → Type 0
RisingPairs [] = Unit {0}
RisingPairs (x ∷ xs) = ((y : Pair) → Member y xs → Before x y) × RisingPairs xs

member_append : (p : Pair) (xs ys : List Pair) → Member p (xs ++ ys) ↔ (Member p xs ⊎ Member p ys)
member_append p [] ys = (λ m. inr m, λ m. either m (λ no. absurd no) (λ y. y))
member_append p (x ∷ xs) ys =
    let rest = member_append p xs ys in (
      λ m. either m (λ e. inl (inl e)) (λ r. either (rest.0 r) (λ l. inl (inr l)) (λ y. inr y)),
      λ m. either m (λ l. either l (λ e. inl e) (λ r. inr (rest.1 (inl r)))) (λ y. inr (rest.1 (inr y))),
    )

rising_append :
    (xs ys : List Pair) → RisingPairs xs → RisingPairs ys → ((x y : Pair) → Member x xs → Member y ys → Before x y) → RisingPairs (xs ++ ys)
rising_append [] ys rx ry between = ry
rising_append (x ∷ xs) ys rx ry between = (
  λ y m. either ((member_append y xs ys).0 m) (λ l. rx.0 y l) (λ r. between x y (inl refl) r),
  rising_append xs ys rx.1 ry (λ u v mu mv. between u v (inr mu) mv),
)

-- ---- the pairs of one t

module _ (t : ℕ) where
  at_member : (p : Pair) (l : List ℕ) → Member p (map (λ s. pair s t) l) ↔ ((p.t ≡ t) × (0 < occurrences p.s l))
  at_member p [] = (λ no. absurd no, λ w. absurd (omega (arith, w.1)))
  at_member p (x ∷ l) =
      let rest = at_member p l in (
        λ m. either m (λ e. (sym (ap (λ (q : Pair). q.t) e), omega (arith, one_if_same x p.s (ap (λ (q : Pair). q.s) e))))
            (λ r. let w = rest.0 r in (w.0, omega (arith, w.1))),
        λ w. either (same_or_not x p.s) (λ e. inl (ap₂ pair e (sym w.0)))
            (λ d. inr (rest.1 (w.0, omega (arith, w.1, one_if_other x p.s d)))),
      )

  at_rises : (l : List ℕ) → Rising l → RisingPairs (map (λ s. pair s t) l)
  at_rises [] rising = tt
  at_rises (x ∷ l) rising = (λ y m. let w = (at_member y l).0 m in inr (sym w.0, rising.0 y.s w.1), at_rises l rising.1)

-- ---- all pairs

module _ (test : ℕ → ℕ → Bool) where
  -- What a pair must be.
  abbrev Wanted : Pair → Type 0
  Wanted p = (p.s < p.t) × (p.t ≤ p.s + CLOSE) × (test p.s p.t ≡ true)

  at_iff : (t : ℕ) (p : Pair) → Member p (pairs_at test t) ↔ ((p.t ≡ t) × Wanted p)
  unfolding pairs_at
  at_iff t p =
      let m = at_member t p (chosen (λ s. test s t) (t - CLOSE) t) in
      let c = chosen_iff (λ s. test s t) (t - CLOSE) t p.s in (
        λ h.
            let e = (m.0 h).0 in
            let w = c.0 (m.0 h).1 in
            let low = w.0 in
            (e, (omega (arith, w.1), omega arith, rw e w.2)),
        λ h.
            let e = h.0 in
            let near = h.1.1 in
            m.1 (e, c.1 (omega arith, omega (arith, h.1.0), rw e at h.1.2)),
      )

  below_iff : (n : ℕ) (p : Pair) → Member p (pairs_below test n) ↔ ((p.t < n) × Wanted p)
  unfolding pairs_below
  below_iff zero p = (λ no. absurd no, λ h. absurd (omega (arith, h.0)))
  below_iff (suc t) p =
      let a = member_append p (pairs_below test t) (pairs_at test t) in (
        λ m. either (a.0 m) (λ l. let w = (below_iff t p).0 l in (omega (arith, w.0), w.1))
            (λ r. let w = (at_iff t p).0 r in (omega (arith, w.0), w.1)),
        λ h. either (same_or_not p.t t) (λ e. a.1 (inr ((at_iff t p).1 (e, h.1))))
            (λ d. a.1 (inl ((below_iff t p).1 (omega (arith, h.0), h.1)))),
      )

  below_rises : (n : ℕ) → RisingPairs (pairs_below test n)
  unfolding pairs_below pairs_at
  below_rises zero = tt
  below_rises (suc t) =
      rising_append (pairs_below test t) (pairs_at test t) (below_rises t)
      (at_rises t (chosen (λ s. test s t) (t - CLOSE) t) (chosen_rises (λ s. test s t) (t - CLOSE) t))
      (λ x y mx my. inl (omega (arith, ((below_iff t x).0 mx).0, ((at_iff t y).0 my).0)))

-- ---- a list that stands in two slices

-- Their first entries are the list's.
pub record Holds (list : List Pair) (b : Slices) : Type 0 where
  pub earlier : (i : ℕ) → i < length list → get_or b.earlier i 0 ≡ get_or (map (λ p. p.s) list) i 0
  pub later : (i : ℕ) → i < length list → get_or b.later i 0 ≡ get_or (map (λ p. p.t) list) i 0

-- Entry i of a list.
abbrev entry : List Pair → ℕ → Pair
entry list i = pair (get_or (map (λ p. p.s) list) i 0) (get_or (map (λ p. p.t) list) i 0)

entry_member : (xs : List Pair) (i : ℕ) → i < length xs → Member (entry xs i) xs
entry_member [] i h = absurd (omega arith)
entry_member (x ∷ xs) zero h = inl refl
entry_member (x ∷ xs) (suc i) h = inr (entry_member xs i (omega arith))

member_entry : (p : Pair) (xs : List Pair) → Member p xs → (i : ℕ) × (i < length xs) × (entry xs i ≡ p)
member_entry p [] m = absurd m
member_entry p (x ∷ xs) m =
    either m (λ e. (0, omega arith, e)) (λ r. let w = member_entry p xs r in let h = w.1 in (suc w.0, omega arith, w.2))

rising_entries : (xs : List Pair) → RisingPairs xs → (i j : ℕ) → i < j → j < length xs → Before (entry xs i) (entry xs j)
rising_entries [] rising i j l h = absurd (omega arith)
rising_entries (x ∷ xs) rising i zero l h = absurd (omega arith)
rising_entries (x ∷ xs) rising zero (suc j) l h = rising.0 (entry xs j) (entry_member xs j (omega arith))
rising_entries (x ∷ xs) rising (suc i) (suc j) l h = rising_entries xs rising.1 i j (omega arith) (omega arith)

-- THE LIST OF A TRACE that keeps the rules, wherever it stands.
module _ (tr : Trace) (n : ℕ) (kept : KeepsRules halt_operand tr n) where
  pub close_pairs_law :
      (b : Slices) → Holds (close_pairs tr n) b → length (close_pairs tr n) ≤ length b.earlier → length (close_pairs tr n) ≤ length b.later
      → ClosePairs tr n b (length (close_pairs tr n))
  unfolding close_pairs
  close_pairs_law b holds room room' =
      let list = close_pairs tr n in
      let race : (s t : ℕ) → (race? tr n s t ≡ true) ↔ Race tr n s t = test_race tr n (forward halt_operand tr n kept.line kept.reached) in
      record {
        room_earlier = room;
        room_later = room';
        exactly = λ s t. (
          λ e.
              let h = e.inside in
              let same : entry list e.place ≡ pair s t = ap₂ pair (sym (holds.earlier e.place h) ∙ e.is_s) (sym (holds.later e.place h) ∙ e.is_t) in
              let m : Member (pair s t) list = rw same at (entry_member list e.place h) in
              let w = (below_iff (race? tr n) n (pair s t)).0 m in
              (w.1.0, w.1.1, (race s t).0 w.1.2),
          λ w.
              let inside = w.2.conflict.second_event in
              let m = member_entry (pair s t) list ((below_iff (race? tr n) n (pair s t)).1 (inside, (w.0, w.1, (race s t).1 w.2))) in
              record {
                place = m.0;
                inside = m.1;
                is_s = holds.earlier m.0 m.1 ∙ ap (λ (p : Pair). p.s) m.2;
                is_t = holds.later m.0 m.1 ∙ ap (λ (p : Pair). p.t) m.2;
              },
        );
        rising = λ i j l h.
            rw (holds.earlier i (omega arith), holds.earlier j h, holds.later i (omega arith), holds.later j h)
            (rising_entries list (below_rises (race? tr n) n) i j l h);
      }

-- ---- two such lists have the same number of pairs

module _ {tr : Trace} {n : ℕ} {b b' : Slices} {k k' : ℕ} (one : ClosePairs tr n b k) (two : ClosePairs tr n b' k') where
  -- Entry i of the one stands in the other,
  found : (i : ℕ) → i < k → Entry b' k' (get_or b.earlier i 0) (get_or b.later i 0)
  found i h = (two.exactly _ _).1 ((one.exactly _ _).0 (record { place = i; inside = h; is_s = refl; is_t = refl }))

  -- and not before place i.
  placed : (i : ℕ) → i < k → (j : ℕ) × (i ≤ j) × (j < k') × (get_or b'.earlier j 0 ≡ get_or b.earlier i 0) × (get_or b'.later j 0 ≡ get_or b.later i 0)
  placed zero h =
      let e = found zero h in
      (e.place, omega arith, e.inside, e.is_s, e.is_t)
  placed (suc i) h =
      let e = found (suc i) h in
      let w = placed i (omega arith) in
      let low = w.1 in
      let s-same = w.3 in
      let t_same = w.4 in
      let s-here = e.is_s in
      let t-here = e.is_t in
      let up = one.rising i (suc i) (omega arith) h in
      let later : w.0 < e.place =
      either (lt_or_le w.0 e.place) (λ l. l)
      (λ l.
      either (same_or_not w.0 e.place)
      (λ same.
      let a : get_or b'.earlier w.0 0 ≡ get_or b'.earlier e.place 0 = ap (λ (z : ℕ). get_or b'.earlier z 0) same in
      let c : get_or b'.later w.0 0 ≡ get_or b'.later e.place 0 = ap (λ (z : ℕ). get_or b'.later z 0) same in
      absurd (either up (λ u. omega arith) (λ u. omega (arith, u.1))))
      (λ other.
      let down = two.rising e.place w.0 (omega arith) w.2 in
      absurd (either up (λ u. either down (λ d. omega arith) (λ d. omega (arith, d.0))) (λ u. either down (λ d. omega (arith, u.0)) (λ d. omega (arith, u.1, d.1)))))) in
      (e.place, omega arith, e.inside, e.is_s, e.is_t)

  number_le : k ≤ k'
  number_le =
      either (lt_or_le 0 k)
      (λ h. let w = placed (k - 1) (omega arith) in let low = w.1 in let high = w.2 in omega arith)
      (λ h. omega arith)

pub number_same : {tr : Trace} {n : ℕ} {b b' : Slices} {k k' : ℕ} → ClosePairs tr n b k → ClosePairs tr n b' k' → k ≡ k'
number_same one two = omega (arith, number_le one two, number_le two one)
