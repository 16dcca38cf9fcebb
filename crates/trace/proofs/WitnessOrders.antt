-- Demand 3, the race half: "two orders of the events up to t, t included. Each keeps all arcs between those events. The two are equal at every place
-- but two, side by side, where the first has s, t and the second t, s."
--
-- The argument: an arc into D comes from D, and so does an arc into s or t, since s does not reach t. So the list of D in position order, then s and
-- t either way round, then the rest in position order keeps all arcs. Only that s comes before t and does not reach it is asked. Assumes nothing.
use Prim.Native.Nat.{ℕ, zero, suc, ◌+◌, ◌<◌}
use native.Mathlib.Omega.{arith}
use mathlib.Core.Path.{◌≡◌, refl, sym, ap, ◌∙◌}
use mathlib.Core.Logic.{inl, inr, ◌≢◌}
use mathlib.Core.Bool.{Bool, true, false, true≢false}
use mathlib.Core.List.{List, [], ◌∷◌, ◌++◌}
use lib.Dec.{eqb}
use lib.ListN.{length, get_or, length-append}
use borrow.Author.Tests.{eqb-true, eqb-false}
use Rattle.trace.specs.Trace.{Trace}
use Rattle.trace.specs.Graph.{Arc, Reach}
use Rattle.trace.specs.Race.{InD}
use Rattle.trace.specs.Orders.{one_if, occurrences, Order, place, KeepsArcs, positions, select}
use Rattle.trace.specs.Outcome.{other?, schedule}
use Rattle.trace.specs.Demands.{Swapped, Witnesses}
use Rattle.trace.proofs.Tests.{Tests, by_test, either, tests_false}
use Rattle.trace.proofs.Paths.{Forward, reach_arc, reach_cons, reach_le}
use Rattle.trace.proofs.Lists.{one_if_same, one_if_other, occurrences_append, occurrences_select_passed, occurrences_select_failed}
use Rattle.trace.proofs.Lists.{place_here, place_there, place_lt_length, place_append_left, place_append_right}
use Rattle.trace.proofs.Lists.{rising_select, rising_place, rising_count_up}
use Rattle.trace.proofs.OrderFacts.{positions_order, order_length}

-- ---- what is early, then a, then b, then what is late

-- Each event is of one of these four parts.
data Part (early late : ℕ → Bool) (a b p : ℕ) : Type 0 where
  is_early : early p ≡ true → late p ≡ false → p ≢ a → p ≢ b → Part early late a b p
  is_a : early p ≡ false → late p ≡ false → p ≡ a → p ≢ b → Part early late a b p
  is_b : early p ≡ false → late p ≡ false → p ≢ a → p ≡ b → Part early late a b p
  is_late : early p ≡ false → late p ≡ true → p ≢ a → p ≢ b → Part early late a b p

part_swap : {early late : ℕ → Bool} {a b p : ℕ} → Part early late a b p → Part early late b a p
part_swap (is_early e l na nb) = is_early e l nb na
part_swap (is_a e l ea nb) = is_b e l nb ea
part_swap (is_b e l na eb) = is_a e l eb na
part_swap (is_late e l na nb) = is_late e l nb na

module _ (early late : ℕ → Bool) (a b m : ℕ) where
  abbrev earlies : List ℕ
  earlies = select early (positions m)

  abbrev lates : List ℕ
  lates = select late (positions m)

  arranged : List ℕ
  arranged = earlies ++ (a ∷ b ∷ lates)

  occurrences_earlies : (p : ℕ) → p < m → early p ≡ true → occurrences p earlies ≡ 1
  occurrences_earlies p lp e = occurrences_select_passed early p (positions m) e ∙ (positions_order m).once p lp

  occurrences_lates : (p : ℕ) → p < m → late p ≡ true → occurrences p lates ≡ 1
  occurrences_lates p lp e = occurrences_select_passed late p (positions m) e ∙ (positions_order m).once p lp

  -- Where each of the four parts stands.
  place_early : (p : ℕ) → p < m → early p ≡ true → (place p arranged ≡ place p earlies) × (place p earlies < length earlies)
  unfolding arranged
  place_early p lp e =
      let c = occurrences_earlies p lp e in
      (place_append_left p earlies (a ∷ b ∷ lates) (omega arith), place_lt_length p earlies (omega arith))

  place_after : (p : ℕ) → early p ≡ false → place p arranged ≡ length earlies + place p (a ∷ b ∷ lates)
  unfolding arranged
  place_after p e = place_append_right p earlies (a ∷ b ∷ lates) (occurrences_select_failed early p (positions m) e)

  place_a : (p : ℕ) → early p ≡ false → p ≡ a → place p arranged ≡ length earlies
  place_a p e same = omega (arith, place_after p e, place_here p a (b ∷ lates) (sym same))

  place_b : (p : ℕ) → early p ≡ false → p ≢ a → p ≡ b → place p arranged ≡ suc (length earlies)
  place_b p e other same =
      omega (arith, place_after p e, place_there p a (b ∷ lates) (λ q. other (sym q)), place_here p b lates (sym same))

  place_late : (p : ℕ) → early p ≡ false → p ≢ a → p ≢ b → place p arranged ≡ suc (suc (length earlies + place p lates))
  place_late p e other-a other_b =
      let past-a = place_there p a (b ∷ lates) (λ q. other-a (sym q)) in
      omega (arith, place_after p e, place_there p b lates (λ q. other_b (sym q)))

  module _ (part : (p : ℕ) → Part early late a b p) where
    module _ (inside-a : a < m) (inside-b : b < m) where
      occurrences_arranged : (p : ℕ) → occurrences p arranged ≡ occurrences p (positions m)
      unfolding arranged
      occurrences_arranged p = occurrences_append p earlies (a ∷ b ∷ lates) ∙ by_part (part p)
        where
          not_in_earlies : early p ≡ false → occurrences p earlies ≡ 0
          not_in_earlies e = occurrences_select_failed early p (positions m) e

          not_in_lates : late p ≡ false → occurrences p lates ≡ 0
          not_in_lates e = occurrences_select_failed late p (positions m) e

          not_one : (x : ℕ) → p ≢ x → one_if x p ≡ 0
          not_one x other = one_if_other x p (λ e. other (sym e))

          by_part : Part early late a b p → occurrences p earlies + occurrences p (a ∷ b ∷ lates) ≡ occurrences p (positions m)
          by_part (is_early e l na nb) =
              omega (arith, occurrences_select_passed early p (positions m) e, not_in_lates l, not_one a na, not_one b nb)
          by_part (is_a e l ea nb) =
              let inside = (positions_order m).once p (omega arith) in
              omega (arith, not_in_earlies e, not_in_lates l, one_if_same a p (sym ea), not_one b nb)
          by_part (is_b e l na eb) =
              let inside = (positions_order m).once p (omega arith) in
              omega (arith, not_in_earlies e, not_in_lates l, not_one a na, one_if_same b p (sym eb))
          by_part (is_late e l na nb) =
              omega (arith, not_in_earlies e, occurrences_select_passed late p (positions m) l, not_one a na, not_one b nb)

      arranged_order : Order m arranged
      arranged_order =
          record {
            once = λ p lp. occurrences_arranged p ∙ (positions_order m).once p lp;
            no_other = λ p lp. occurrences_arranged p ∙ (positions_order m).no_other p lp;
          }

    module _ (tr : Trace) (graph : ℕ) (forward : Forward tr graph)
        (into-early : (p q : ℕ) → q < m → Arc tr graph p q → early q ≡ true → early p ≡ true)
        (into-a : (p : ℕ) → Arc tr graph p a → early p ≡ true)
        (into-b : (p : ℕ) → Arc tr graph p b → early p ≡ true) where
      arranged_keeps : KeepsArcs tr graph m arranged
      arranged_keeps = record { earlier = λ p q lp lq arc. to p q lp lq arc (part q) }
        where
          in_order : (test : ℕ → Bool) (p q : ℕ) → p < q → 0 < occurrences p (select test (positions m))
              → 0 < occurrences q (select test (positions m)) → place p (select test (positions m)) < place q (select test (positions m))
          in_order test p q less =
              rising_place p q (select test (positions m)) (rising_select test (positions m) (rising_count_up 0 m)) less

          both_early : (p q : ℕ) → p < m → q < m → Arc tr graph p q → early p ≡ true → early q ≡ true → place p arranged < place q arranged
          both_early p q lp lq arc ep eq =
              let cp = occurrences_earlies p lp ep in
              let cq = occurrences_earlies q lq eq in
              let less = in_order early p q (forward p q arc) (omega arith) (omega arith) in
              omega (arith, place_early p lp ep, place_early q lq eq)

          both_late : (p q : ℕ) → p < m → q < m → Arc tr graph p q → late p ≡ true → late q ≡ true → place p lates < place q lates
          both_late p q lp lq arc ep eq =
              let cp = occurrences_lates p lp ep in
              let cq = occurrences_lates q lq eq in
              in_order late p q (forward p q arc) (omega arith) (omega arith)

          to_late : (p q : ℕ) → p < m → q < m → Arc tr graph p q → late q ≡ true
              → place q arranged ≡ suc (suc (length earlies + place q lates)) → Part early late a b p → place p arranged < place q arranged
          to_late p q lp lq arc lq' at (is_early e l na nb) = omega (arith, place_early p lp e)
          to_late p q lp lq arc lq' at (is_a e l ea nb) = omega (arith, place_a p e ea)
          to_late p q lp lq arc lq' at (is_b e l na eb) = omega (arith, place_b p e na eb)
          to_late p q lp lq arc lq' at (is_late e l na nb) = omega (arith, place_late p e na nb, both_late p q lp lq arc l lq')

          to : (p q : ℕ) → p < m → q < m → Arc tr graph p q → Part early late a b q → place p arranged < place q arranged
          to p q lp lq arc (is_early e l na nb) = both_early p q lp lq arc (into-early p q lq arc e) e
          to p q lp lq arc (is_a e l ea nb) = omega (arith, place_early p lp (into-a p (rw ea at arc)), place_a q e ea)
          to p q lp lq arc (is_b e l na eb) = omega (arith, place_early p lp (into-b p (rw eb at arc)), place_b q e na eb)
          to p q lp lq arc (is_late e l na nb) = to_late p q lp lq arc l (place_late q e na nb) (part p)

-- ---- two lists that differ where s and t stand

module _ (s t : ℕ) (ys : List ℕ) where
  get_d_pair : (xs : List ℕ) → (get_or (xs ++ (s ∷ t ∷ ys)) (length xs) 0 ≡ s) × (get_or (xs ++ (s ∷ t ∷ ys)) (suc (length xs)) 0 ≡ t)
  get_d_pair [] = (refl, refl)
  get_d_pair (x ∷ xs) = get_d_pair xs

  get_d_elsewhere :
      (xs : List ℕ) (i : ℕ) → i ≢ length xs → i ≢ suc (length xs) → get_or (xs ++ (s ∷ t ∷ ys)) i 0 ≡ get_or (xs ++ (t ∷ s ∷ ys)) i 0
  get_d_elsewhere [] zero h k = absurd (h refl)
  get_d_elsewhere [] (suc zero) h k = absurd (k refl)
  get_d_elsewhere [] (suc (suc i)) h k = refl
  get_d_elsewhere (x ∷ xs) zero h k = refl
  get_d_elsewhere (x ∷ xs) (suc i) h k = get_d_elsewhere xs i (λ e. h (ap suc e)) (λ e. k (ap suc e))

pub append_swapped : (s t : ℕ) (xs ys : List ℕ) → Swapped s t (xs ++ (s ∷ t ∷ ys)) (xs ++ (t ∷ s ∷ ys))
append_swapped s t xs ys =
    record {
      at = length xs;
      fits = omega (arith, length-append xs (s ∷ t ∷ ys));
      one_length = omega (arith, length-append xs (s ∷ t ∷ ys), length-append xs (t ∷ s ∷ ys));
      first_s = (get_d_pair s t ys xs).0;
      first_t = (get_d_pair s t ys xs).1;
      second_t = (get_d_pair t s ys xs).0;
      second_s = (get_d_pair t s ys xs).1;
      elsewhere = get_d_elsewhere s t ys xs;
    }

pub append_swapped_at : (s t : ℕ) (xs ys : List ℕ) → (append_swapped s t xs ys).at ≡ length xs
unfolding append_swapped
append_swapped_at s t xs ys = refl

-- ---- the two schedules of a pair

-- For these any set will do that has neither s nor t.
module _ (in_d : ℕ → Bool) (s t : ℕ) (less : s < t) (without-s : in_d s ≡ false) (without-t : in_d t ≡ false) where
  schedule_part : (p : ℕ) → Part in_d (other? in_d s t) s t p
  schedule_part p =
      by_test (in_d p)
      (λ e. is_early e (rw e) (λ q. true≢false (sym e ∙ ap in_d q ∙ without-s)) (λ q. true≢false (sym e ∙ ap in_d q ∙ without-t)))
      (λ e.
      by_test (eqb p s)
      (λ es. let same : p ≡ s = eqb-true p s es in is_a e (rw (e, es)) same (λ q. omega arith))
      (λ es.
      by_test (eqb p t) (λ et. is_b e (rw (e, es, et)) (eqb-false p s es) (eqb-true p t et))
      (λ et. is_late e (rw (e, es, et)) (eqb-false p s es) (eqb-false p t et))))

  -- Each is an order of the events up to t.
  pub schedule_order₁ : Order (suc t) (schedule in_d s t s t)
  unfolding arranged
  schedule_order₁ = arranged_order in_d (other? in_d s t) s t (suc t) schedule_part (omega arith) (omega arith)

  pub schedule_order₂ : Order (suc t) (schedule in_d s t t s)
  unfolding arranged
  schedule_order₂ =
      arranged_order in_d (other? in_d s t) t s (suc t) (λ p. part_swap (schedule_part p)) (omega arith) (omega arith)

  -- The length, whatever stands at the place of the pair.
  pub schedule_length : (a b : ℕ) → length (schedule in_d s t a b) ≡ suc t
  schedule_length a b =
      let D = select in_d (positions (suc t)) in
      let rest = select (other? in_d s t) (positions (suc t)) in
      let whole = order_length (suc t) (schedule in_d s t s t) schedule_order₁ in
      omega (arith, length-append D (s ∷ t ∷ rest), length-append D (a ∷ b ∷ rest))

module _ (tr : Trace) (graph : ℕ) (forward : Forward tr graph) (s t : ℕ) (less : s < t) (apart : Reach tr graph s t → ⊥)
    (in_d : ℕ → Bool) (test_D : (p : ℕ) → p < suc t → Tests (in_d p) (InD tr graph s t p)) where
  D_without_s : in_d s ≡ false
  D_without_s = tests_false (in_d s) (test_D s (omega arith)) (λ h. h.not_s refl)

  D_without_t : in_d t ≡ false
  D_without_t = tests_false (in_d t) (test_D t (omega arith)) (λ h. h.not_t refl)

  -- An arc into D comes from D.
  into_D : (p q : ℕ) → q < suc t → Arc tr graph p q → in_d q ≡ true → in_d p ≡ true
  into_D p q lq arc e =
      let earlier : p < q = forward p q arc in
      let h : InD tr graph s t q = (test_D q lq).0 e in
      (test_D p (omega arith)).1
      (record {
        not_s = λ same. either h.reaches (λ path. omega (arith, reach_le forward path)) (λ path. apart (reach_cons (rw same at arc) path));
        not_t = λ same. omega arith;
        reaches = either h.reaches (λ path. inl (reach_cons arc path)) (λ path. inr (reach_cons arc path));
      })

  -- An arc into s or t comes from D.
  into_s : (p : ℕ) → Arc tr graph p s → in_d p ≡ true
  into_s p arc =
      let earlier : p < s = forward p s arc in
      (test_D p (omega arith)).1
      (record { not_s = λ same. omega arith; not_t = λ same. omega arith; reaches = inl (reach_arc arc) })

  into_t : (p : ℕ) → Arc tr graph p t → in_d p ≡ true
  into_t p arc =
      let earlier : p < t = forward p t arc in
      (test_D p (omega arith)).1
      (record { not_s = λ same. apart (reach_arc (rw same at arc)); not_t = λ same. omega arith; reaches = inr (reach_arc arc) })

-- DEMAND 3, race: of a pair s, t, where s comes first and does not reach t, the two schedules are two orders of the events up to t, each keeps all
-- arcs between those events, and they are equal at every place but two, side by side, where the first has s, t and the second t, s.
pub witness_orders :
    (tr : Trace) (graph : ℕ) → Forward tr graph → (s t : ℕ) → s < t → (Reach tr graph s t → ⊥)
    → (in_d : ℕ → Bool) → ((p : ℕ) → p < suc t → Tests (in_d p) (InD tr graph s t p))
    → Witnesses tr graph s t (schedule in_d s t s t) (schedule in_d s t t s)
unfolding arranged
witness_orders tr graph forward s t less apart in_d test_D =
    let other : ℕ → Bool = other? in_d s t in
    let without-s = D_without_s tr graph forward s t less apart in_d test_D in
    let without-t = D_without_t tr graph forward s t less apart in_d test_D in
    let part : (p : ℕ) → Part in_d other s t p = schedule_part in_d s t less without-s without-t in
    let from-D = into_D tr graph forward s t less apart in_d test_D in
    let to-s = into_s tr graph forward s t less apart in_d test_D in
    let to-t = into_t tr graph forward s t less apart in_d test_D in
    record {
      order₁ = schedule_order₁ in_d s t less without-s without-t;
      order₂ = schedule_order₂ in_d s t less without-s without-t;
      keeps₁ = arranged_keeps in_d other s t (suc t) part tr graph forward from-D to-s to-t;
      keeps₂ = arranged_keeps in_d other t s (suc t) (λ p. part_swap (part p)) tr graph forward from-D to-t to-s;
      swapped = append_swapped s t (select in_d (positions (suc t))) (select other (positions (suc t)));
    }
