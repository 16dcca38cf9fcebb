-- What an insertion right after an entry does to the places in a list: the places up to that entry stay, the new entry's is the next one, and the others
-- move up by one. So the entries keep their order, the new entry stands after those up to m, and before the others. Assumes nothing.
use Prim.Native.Nat.{ℕ, suc, ◌+◌, ◌<◌, ◌≤◌}
use native.Mathlib.Omega.{arith}
use mathlib.Core.Path.{◌≡◌, refl, sym}
use mathlib.Core.Logic.{◌≢◌, ◌↔◌}
use mathlib.Core.List.{List, [], ◌∷◌}
use lib.Dec.{eqb}
use borrow.Author.Tests.{eqb-true, eqb-false}
use Rattle.trace.specs.Orders.{one_if, occurrences, place}
use Rattle.segments.specs.Segments.{insert_after}
use Rattle.trace.proofs.Tests.{by_test, either, same_or_not, lt_or_le}
use Rattle.trace.proofs.Lists.{one_if_same, one_if_other, place_here, place_there}

-- Wherever x is put, the list has one x more.
pub occurrences_insert : (p m x : ℕ) (l : List ℕ) → occurrences p (insert_after m x l) ≡ one_if x p + occurrences p l
unfolding insert_after
occurrences_insert p m x [] = refl
occurrences_insert p m x (y ∷ l) =
    by_test (eqb y m) (λ e. rw e (omega arith)) (λ e. rw e (omega (arith, occurrences_insert p m x l)))

-- The new entry stands right after m,
place_new : (m x : ℕ) (l : List ℕ) → 0 < occurrences m l → occurrences x l ≡ 0 → place x (insert_after m x l) ≡ suc (place m l)
unfolding insert_after
place_new m x [] h new = absurd (omega arith)
place_new m x (y ∷ l) h new =
    let other : y ≢ x = λ e. omega (arith, one_if_same y x e) in
    by_test (eqb y m)
    (λ e. rw e (omega (arith, place_there x y (x ∷ l) other, place_here x x l refl)))
    (λ e.
    let d = eqb-false y m e in
    rw e (omega (
      arith,
      place_there x y (insert_after m x l) other,
      place_new m x l (omega (arith, one_if_other y m d)) (omega arith),
    )))

-- what stood up to m keeps its place,
place_low : (p m x : ℕ) (l : List ℕ) → p ≢ x → 0 < occurrences m l → place p l ≤ place m l → place p (insert_after m x l) ≡ place p l
unfolding insert_after
place_low p m x [] d h i = absurd (omega arith)
place_low p m x (y ∷ l) d h i =
    either (same_or_not y p)
    (λ e. by_test (eqb y m)
    (λ f. rw f (omega (arith, place_here p y (x ∷ l) e, place_here p y l e)))
    (λ f. rw f (omega (arith, place_here p y (insert_after m x l) e, place_here p y l e))))
    (λ e.
    let lower = place_there p y l e in
    by_test (eqb y m)
    (λ f. absurd (omega (arith, place_here m y l (eqb-true y m f))))
    (λ f.
    let g = eqb-false y m f in
    let upper = place_there m y l g in
    let rest = place_low p m x l d (omega (arith, one_if_other y m g)) (omega arith) in
    rw f (omega (arith, place_there p y (insert_after m x l) e))))

-- and what stood after m moves up by one.
place_high : (p m x : ℕ) (l : List ℕ) → p ≢ x → place m l < place p l → place p (insert_after m x l) ≡ suc (place p l)
unfolding insert_after
place_high p m x [] d i = absurd (omega arith)
place_high p m x (y ∷ l) d i =
    either (same_or_not y p)
    (λ e. absurd (omega (arith, place_here p y l e)))
    (λ e.
    let lower = place_there p y l e in
    by_test (eqb y m)
    (λ f. rw f (omega (arith, place_there p y (x ∷ l) e, place_there p x l (λ q. d (sym q)))))
    (λ f.
    let upper = place_there m y l (eqb-false y m f) in
    let rest = place_high p m x l d (omega arith) in
    rw f (omega (arith, place_there p y (insert_after m x l) e))))

-- The order of the entries before and after x was put right after m.
pub record Inserted (m x : ℕ) (l l' : List ℕ) : Type 0 where
  -- the others keep their order,
  pub others : (p q : ℕ) → p ≢ x → q ≢ x → (place p l ≤ place q l) ↔ (place p l' ≤ place q l')
  -- x stands after those up to m,
  pub up_to : (p : ℕ) → p ≢ x → (place p l ≤ place m l) ↔ (place p l' ≤ place x l')
  -- and before those after m.
  pub beyond : (q : ℕ) → q ≢ x → (place m l < place q l) ↔ (place x l' ≤ place q l')

pub inserted : (m x : ℕ) (l : List ℕ) → 0 < occurrences m l → occurrences x l ≡ 0 → Inserted m x l (insert_after m x l)
inserted m x l h new =
    let l' = insert_after m x l in
    let at_x = place_new m x l h new in
    record {
      others = λ p q d e.
          either (lt_or_le (place m l) (place p l))
          (λ i. let a = place_high p m x l d i in
          either (lt_or_le (place m l) (place q l))
          (λ j. let b = place_high q m x l e j in (λ k. omega arith, λ k. omega arith))
          (λ j. let b = place_low q m x l e h j in (λ k. omega arith, λ k. omega arith)))
          (λ i. let a = place_low p m x l d h i in
          either (lt_or_le (place m l) (place q l))
          (λ j. let b = place_high q m x l e j in (λ k. omega arith, λ k. omega arith))
          (λ j. let b = place_low q m x l e h j in (λ k. omega arith, λ k. omega arith)));
      up_to = λ p d.
          either (lt_or_le (place m l) (place p l))
          (λ i. let a = place_high p m x l d i in (λ k. omega arith, λ k. omega arith))
          (λ i. let a = place_low p m x l d h i in (λ k. omega arith, λ k. omega arith));
      beyond = λ q d.
          either (lt_or_le (place m l) (place q l))
          (λ i. let a = place_high q m x l d i in (λ k. omega arith, λ k. omega arith))
          (λ i. let a = place_low q m x l d h i in (λ k. omega arith, λ k. omega arith));
    }
