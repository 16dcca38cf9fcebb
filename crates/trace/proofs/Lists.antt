-- Laws of the list functions of `Orders`: how often a number stands in a list, the place of its first occurrence, what stands before it, the
-- selection of what passes a test, the latest entry that passes one, lists that count up, lists whose first entries are made 0, and lists that are stored
-- in another. They hold of all lists of numbers and say nothing of traces. Assumes nothing.
use Prim.Native.Nat.{ℕ, zero, suc, ◌+◌, ◌-◌, ◌<◌, ◌≤◌}
use native.Mathlib.Nat.{add-zero, zero-add}
use native.Mathlib.Omega.{arith}
use mathlib.Core.Path.{◌≡◌, refl, sym, ap, ◌∙◌}
use mathlib.Core.Logic.{◌⊎◌, inl, inr, ◌≢◌, ◌↔◌}
use mathlib.Core.Bool.{Bool, true, false, true≢false}
use mathlib.Core.List.{List, [], ◌∷◌, ◌++◌, append-nil}
use mathlib.Core.Option.{Option, none, some, none-ne-some, some-injective}
use lib.Dec.{eqb}
use lib.ListN.{length, get_or, set, replicate, drop, length-append, length-replicate, length-drop, get_or-replicate, get_or-append}
use lib.Seq.{sets, sets-eq, get_or-append-add, get_or-drop, drop-set-lt}
use borrow.Author.Tests.{eqb-true, eqb-false, eq-eqb, ne_eqb}
use Rattle.trace.specs.Orders.{one_if, occurrences, Rising, place, count_up, positions, select, chosen, before, or_this, latest}
use Rattle.trace.proofs.Tests.{by_test, either, by_option, same_or_not, lt_or_le}

-- ---- how often a number stands in a list

pub one_if_same : (x p : ℕ) → x ≡ p → one_if x p ≡ 1
unfolding one_if
one_if_same x p e = rw (eq-eqb x p e)

pub one_if_other : (x p : ℕ) → x ≢ p → one_if x p ≡ 0
unfolding one_if
one_if_other x p d = rw (ne_eqb x p d)

pub occurrences_append : (p : ℕ) (xs ys : List ℕ) → occurrences p (xs ++ ys) ≡ occurrences p xs + occurrences p ys
occurrences_append p [] ys = omega arith
occurrences_append p (x ∷ xs) ys = omega (arith, occurrences_append p xs ys)

-- ---- the place of a number in a list

pub place_here : (p x : ℕ) (xs : List ℕ) → x ≡ p → place p (x ∷ xs) ≡ 0
place_here p x xs e = rw (eq-eqb x p e)

pub place_there : (p x : ℕ) (xs : List ℕ) → x ≢ p → place p (x ∷ xs) ≡ suc (place p xs)
place_there p x xs d = rw (ne_eqb x p d)

pub place_lt_length : (p : ℕ) (xs : List ℕ) → 0 < occurrences p xs → place p xs < length xs
place_lt_length p [] h = omega arith
place_lt_length p (x ∷ xs) h =
    either (same_or_not x p) (λ e. omega (arith, place_here p x xs e))
    (λ d. omega (arith, place_there p x xs d, place_lt_length p xs (omega (arith, one_if_other x p d))))

pub place_append_left : (p : ℕ) (xs ys : List ℕ) → 0 < occurrences p xs → place p (xs ++ ys) ≡ place p xs
place_append_left p [] ys h = omega arith
place_append_left p (x ∷ xs) ys h =
    either (same_or_not x p) (λ e. omega (arith, place_here p x xs e, place_here p x (xs ++ ys) e))
    (λ d.
    let rest = place_append_left p xs ys (omega (arith, one_if_other x p d)) in
    omega (arith, place_there p x xs d, place_there p x (xs ++ ys) d))

pub place_append_right : (p : ℕ) (xs ys : List ℕ) → occurrences p xs ≡ 0 → place p (xs ++ ys) ≡ length xs + place p ys
place_append_right p [] ys h = omega arith
place_append_right p (x ∷ xs) ys h =
    either (same_or_not x p) (λ e. omega (arith, one_if_same x p e))
    (λ d. omega (arith, place_there p x (xs ++ ys) d, place_append_right p xs ys (omega arith)))

-- Two numbers at one place are one, if one of them stands in the list.
pub place_injective : (p q : ℕ) (xs : List ℕ) → 0 < occurrences p xs → place p xs ≡ place q xs → p ≡ q
place_injective p q [] h e = absurd (omega arith)
place_injective p q (x ∷ xs) h e =
    either (same_or_not x p)
    (λ ep. either (same_or_not x q) (λ eq. omega arith) (λ dq. absurd (omega (arith, place_here p x xs ep, place_there q x xs dq))))
    (λ dp.
    let there = place_there p x xs dp in
    either (same_or_not x q) (λ eq. absurd (omega (arith, place_here q x xs eq)))
    (λ dq. place_injective p q xs (omega (arith, one_if_other x p dp)) (omega (arith, place_there q x xs dq))))

-- ---- what stands before a number

-- What stands before the first r has a lower place than r.
pub place_lt_of_before : (p r : ℕ) (xs : List ℕ) → 0 < occurrences p (before r xs) → place p xs < place r xs
place_lt_of_before p r [] h = omega arith
place_lt_of_before p r (x ∷ xs) h =
    by_test (eqb x r) (λ e. let h' = rw e at h in absurd (omega arith))
    (λ e.
    let d = eqb-false x r e in
    let h' : 0 < one_if x p + occurrences p (before r xs) = rw e at h in
    either (same_or_not x p) (λ same. omega (arith, place_here p x xs same, place_there r x xs d))
    (λ other.
    let rest = place_lt_of_before p r xs (omega (arith, one_if_other x p other)) in
    omega (arith, place_there p x xs other, place_there r x xs d)))

-- What has a lower place than r stands before the first r.
pub before_of_place_lt : (p r : ℕ) (xs : List ℕ) → place p xs < place r xs → 0 < occurrences p (before r xs)
before_of_place_lt p r [] h = omega arith
before_of_place_lt p r (x ∷ xs) h =
    by_test (eqb x r) (λ e. absurd (omega (arith, place_here r x xs (eqb-true x r e))))
    (λ e.
    rw e
    (either (same_or_not x p) (λ same. omega (arith, one_if_same x p same))
    (λ other.
    let lower = place_there p x xs other in
    let upper = place_there r x xs (eqb-false x r e) in
    omega (arith, before_of_place_lt p r xs (omega arith)))))

pub occurrences_before_le : (p r : ℕ) (xs : List ℕ) → occurrences p (before r xs) ≤ occurrences p xs
occurrences_before_le p r [] = omega arith
occurrences_before_le p r (x ∷ xs) =
    by_test (eqb x r) (λ e. rw e (omega arith)) (λ e. rw e (omega (arith, occurrences_before_le p r xs)))

-- What stands before r keeps its place.
pub place_before : (p r : ℕ) (xs : List ℕ) → 0 < occurrences p (before r xs) → place p (before r xs) ≡ place p xs
place_before p r [] h = omega arith
place_before p r (x ∷ xs) h =
    by_test (eqb x r) (λ e. let h' = rw e at h in absurd (omega arith))
    (λ e.
    let h' : 0 < one_if x p + occurrences p (before r xs) = rw e at h in
    rw e
    (either (same_or_not x p) (λ same. place_here p x (before r xs) same ∙ sym (place_here p x xs same))
    (λ other.
    place_there p x (before r xs) other
    ∙ ap suc (place_before p r xs (omega (arith, one_if_other x p other)))
    ∙ sym (place_there p x xs other))))

-- Before an r that stands after xs and not in it.
pub before_append : (r : ℕ) (xs ys : List ℕ) → occurrences r xs ≡ 0 → before r (xs ++ ys) ≡ xs ++ before r ys
before_append r [] ys h = refl
before_append r (x ∷ xs) ys h =
    by_test (eqb x r) (λ e. absurd (omega (arith, one_if_same x r (eqb-true x r e))))
    (λ e. rw e (ap {B = List ℕ} (λ (z : List ℕ). x ∷ z) (before_append r xs ys (omega arith))))

-- ---- the selection of what passes a test

passed_or_other : (test : ℕ → Bool) (x p : ℕ) → test x ≡ false → test p ≡ true → x ≢ p
passed_or_other test x p failed passed e = true≢false (sym passed ∙ ap test (sym e) ∙ failed)

pub occurrences_select_passed :
    (test : ℕ → Bool) (p : ℕ) (xs : List ℕ) → test p ≡ true → occurrences p (select test xs) ≡ occurrences p xs
occurrences_select_passed test p [] h = refl
occurrences_select_passed test p (x ∷ xs) h =
    let rest = occurrences_select_passed test p xs h in
    by_test (test x) (λ e. rw e (omega arith)) (λ e. rw e (omega (arith, one_if_other x p (passed_or_other test x p e h))))

pub occurrences_select_failed : (test : ℕ → Bool) (p : ℕ) (xs : List ℕ) → test p ≡ false → occurrences p (select test xs) ≡ 0
occurrences_select_failed test p [] h = refl
occurrences_select_failed test p (x ∷ xs) h =
    let rest = occurrences_select_failed test p xs h in
    by_test (test x) (λ e. rw e (omega (arith, one_if_other x p (λ q. passed_or_other test p x h e (sym q))))) (λ e. rw e rest)

pub occurrences_select_le : (test : ℕ → Bool) (p : ℕ) (xs : List ℕ) → occurrences p (select test xs) ≤ occurrences p xs
occurrences_select_le test p xs =
    by_test (test p) (λ e. omega (arith, occurrences_select_passed test p xs e))
    (λ e. omega (arith, occurrences_select_failed test p xs e))

-- Two lists that have the same numbers equally often do so after a selection.
pub occurrences_select_same :
    (test : ℕ → Bool) (xs ys : List ℕ) → ((p : ℕ) → occurrences p xs ≡ occurrences p ys)
    → (p : ℕ) → occurrences p (select test xs) ≡ occurrences p (select test ys)
occurrences_select_same test xs ys h p =
    by_test (test p) (λ e. occurrences_select_passed test p xs e ∙ h p ∙ sym (occurrences_select_passed test p ys e))
    (λ e. occurrences_select_failed test p xs e ∙ sym (occurrences_select_failed test p ys e))

-- What stands in a selection passes the test.
pub passed_of_select : (test : ℕ → Bool) (p : ℕ) (xs : List ℕ) → 0 < occurrences p (select test xs) → test p ≡ true
passed_of_select test p xs h =
    by_test (test p) (λ e. e) (λ e. absurd (omega (arith, occurrences_select_failed test p xs e)))

pub select_append : (test : ℕ → Bool) (xs ys : List ℕ) → select test (xs ++ ys) ≡ select test xs ++ select test ys
select_append test [] ys = refl
select_append test (x ∷ xs) ys =
    by_test (test x) (λ e. rw e (ap {B = List ℕ} (λ (z : List ℕ). x ∷ z) (select_append test xs ys)))
    (λ e. rw e (select_append test xs ys))

-- Two tests that agree select the same.
pub select_same : (test test' : ℕ → Bool) → ((x : ℕ) → test x ≡ test' x) → (xs : List ℕ) → select test xs ≡ select test' xs
select_same test test' agree [] = refl
select_same test test' agree (x ∷ xs) = rw (agree x, select_same test test' agree xs)

-- ---- the latest entry that passes a test

-- Where there is no latest entry that passes, no entry passes.
failed_of_latest_none :
    (test : ℕ → Bool) (xs : List ℕ) → latest test xs ≡ none → (p : ℕ) → 0 < occurrences p xs → test p ≡ false
failed_of_latest_none test [] h p c = absurd (omega arith)
failed_of_latest_none test (x ∷ xs) h p c =
    by_option (latest test xs)
    (λ e.
    by_test (test x) (λ passed. absurd (none-ne-some x (sym (rw (latest, e, passed) at h))))
    (λ failed.
    either (same_or_not x p) (λ same. rw same at failed)
    (λ other. failed_of_latest_none test xs e p (omega (arith, one_if_other x p other)))))
    (λ y e. absurd (none-ne-some y (sym (rw (latest, e) at h))))

-- The latest entry that passes is an entry, and passes.
pub latest_passed : (test : ℕ → Bool) (xs : List ℕ) (w : ℕ) → latest test xs ≡ some w → (test w ≡ true) × (0 < occurrences w xs)
latest_passed test [] w h = absurd (none-ne-some w h)
latest_passed test (x ∷ xs) w h =
    by_option (latest test xs)
    (λ e.
    by_test (test x)
    (λ passed.
    let q : x ≡ w = some-injective x w (rw (latest, e, passed) at h) in
    (rw q at passed, omega (arith, one_if_same x w q)))
    (λ failed. absurd (none-ne-some w (rw (latest, e, failed) at h))))
    (λ y e.
    let q : y ≡ w = some-injective y w (rw (latest, e) at h) in
    let rest = latest_passed test xs w (rw q at e) in
    (rest.0, omega arith))

-- In a list with no repeats, no entry that passes stands after the latest one.
place_le_latest :
    (test : ℕ → Bool) (xs : List ℕ) (w p : ℕ) → ((q : ℕ) → occurrences q xs ≤ 1) → latest test xs ≡ some w → test p ≡ true
    → 0 < occurrences p xs → place p xs ≤ place w xs
place_le_latest test [] w p once h passed c = omega arith
place_le_latest test (x ∷ xs) w p once h passed c =
    by_option (latest test xs)
    (λ e.
    either (same_or_not x p) (λ same. omega (arith, place_here p x xs same))
    (λ other. absurd (true≢false (sym passed ∙ failed_of_latest_none test xs e p (omega (arith, one_if_other x p other))))))
    (λ y e.
    let q : y ≡ w = some-injective y w (rw (latest, e) at h) in
    let e' = rw q at e in
    let found = latest_passed test xs w e' in
    let later : x ≢ w = λ d. omega (arith, once w, one_if_same x w d) in
    either (same_or_not x p) (λ same. omega (arith, place_here p x xs same))
    (λ other.
    let rest = place_le_latest test xs w p (λ r. omega (arith, once r)) e' passed (omega (arith, one_if_other x p other)) in
    omega (arith, place_there p x xs other, place_there w x xs later)))

-- w is the last entry that passes the test.
pub record Last (test : ℕ → Bool) (xs : List ℕ) (w : ℕ) : Type 0 where
  pub passed : test w ≡ true
  pub entry : 0 < occurrences w xs
  pub none_later : (p : ℕ) → test p ≡ true → 0 < occurrences p xs → place p xs ≤ place w xs

-- In a list with no repeats, the latest entry that passes is what its name says.
pub latest_some_iff :
    (test : ℕ → Bool) (xs : List ℕ) → ((q : ℕ) → occurrences q xs ≤ 1) → (w : ℕ) → (latest test xs ≡ some w) ↔ Last test xs w
latest_some_iff test xs once w = (forth, back)
  where
    forth : latest test xs ≡ some w → Last test xs w
    forth e =
        let found = latest_passed test xs w e in
        record { passed = found.0; entry = found.1; none_later = λ p. place_le_latest test xs w p once e }

    back : Last test xs w → latest test xs ≡ some w
    back last =
        by_option (latest test xs)
        (λ e. absurd (true≢false (sym last.passed ∙ failed_of_latest_none test xs e w last.entry)))
        (λ v e.
        let found = latest_passed test xs v e in
        let up = last.none_later v found.0 found.1 in
        let down = place_le_latest test xs v w once e last.passed last.entry in
        e ∙ ap some (place_injective v w xs found.1 (omega arith)))

pub latest_none_iff :
    (test : ℕ → Bool) (xs : List ℕ) → (latest test xs ≡ none) ↔ ((p : ℕ) → 0 < occurrences p xs → test p ≡ false)
latest_none_iff test xs = (failed_of_latest_none test xs, back)
  where
    back : ((p : ℕ) → 0 < occurrences p xs → test p ≡ false) → latest test xs ≡ none
    back failed =
        by_option (latest test xs) (λ e. e)
        (λ w e. let found = latest_passed test xs w e in absurd (true≢false (sym found.0 ∙ failed w found.1)))

-- An entry at the end that passes is the latest.
pub latest_append_passed :
    (test : ℕ → Bool) (xs : List ℕ) (x : ℕ) → test x ≡ true → latest test (xs ++ (x ∷ [])) ≡ some x
latest_append_passed test [] x h = rw h
latest_append_passed test (y ∷ xs) x h = rw (latest_append_passed test xs x h)

pub or_this_failed : (found : Option ℕ) (x : ℕ) → or_this found false x ≡ found
or_this_failed (some y) x = refl
or_this_failed none x = refl

-- Where what passes `test` passes `wider`, the latest entry that passes `test`, in all of a list or before an r, is that of its selection by `wider`.
module _ (test wider : ℕ → Bool) (implied : (x : ℕ) → test x ≡ true → wider x ≡ true) where
  failed_of_wider : (x : ℕ) → wider x ≡ false → test x ≡ false
  failed_of_wider x e = by_test (test x) (λ t. absurd (true≢false (sym (implied x t) ∙ e))) (λ t. t)

  pub latest_select : (xs : List ℕ) → latest test (select wider xs) ≡ latest test xs
  latest_select [] = refl
  latest_select (x ∷ xs) =
      by_test (wider x) (λ e. rw e (ap (λ (z : Option ℕ). or_this z (test x) x) (latest_select xs)))
      (λ e. rw (e, failed_of_wider x e, or_this_failed) (latest_select xs))

  pub latest_before_select :
      (r : ℕ) → wider r ≡ true → (xs : List ℕ) → latest test (before r (select wider xs)) ≡ latest test (before r xs)
  latest_before_select r passed [] = refl
  latest_before_select r passed (x ∷ xs) =
      by_test (eqb x r) (λ q. rw (ap wider (eqb-true x r q) ∙ passed, q) refl)
      (λ q.
      by_test (wider x) (λ e. rw (e, q) (ap (λ (z : Option ℕ). or_this z (test x) x) (latest_before_select r passed xs)))
      (λ e. rw (e, q, failed_of_wider x e, or_this_failed) (latest_before_select r passed xs)))

-- ---- rising lists

-- Each number stands in one once at most.
rising_once : (p : ℕ) (xs : List ℕ) → Rising xs → occurrences p xs ≤ 1
rising_once p [] rising = omega arith
rising_once p (x ∷ xs) rising =
    either (same_or_not x p)
    (λ e. either (lt_or_le 0 (occurrences p xs)) (λ h. absurd (omega (arith, rising.0 p h))) (λ h. omega (arith, one_if_same x p e)))
    (λ d. omega (arith, one_if_other x p d, rising_once p xs rising.1))

pub rising_select : (test : ℕ → Bool) (xs : List ℕ) → Rising xs → Rising (select test xs)
rising_select test [] h = tt
rising_select test (x ∷ xs) h =
    by_test (test x)
    (λ e. rw e (λ y c. h.0 y (omega (arith, occurrences_select_le test y xs)), rising_select test xs h.1))
    (λ e. rw e (rising_select test xs h.1))

-- In a rising list the less of two entries has the lower place.
pub rising_place :
    (p q : ℕ) (xs : List ℕ) → Rising xs → p < q → 0 < occurrences p xs → 0 < occurrences q xs → place p xs < place q xs
rising_place p q [] rising less hp hq = omega arith
rising_place p q (x ∷ xs) rising less hp hq =
    either (same_or_not x p) (λ e. omega (arith, place_here p x xs e, place_there q x xs (λ d. omega arith)))
    (λ d.
    let hp' : 0 < occurrences p xs = omega (arith, one_if_other x p d) in
    let lower : x < p = rising.0 p hp' in
    let dq : x ≢ q = λ e. omega arith in
    let hq' : 0 < occurrences q xs = omega (arith, one_if_other x q dq) in
    let rest = rising_place p q xs rising.1 less hp' hq' in
    omega (arith, place_there p x xs d, place_there q x xs dq))

none_below_head : (x y : ℕ) (ys : List ℕ) → Rising (y ∷ ys) → x < y → occurrences x (y ∷ ys) ≡ 0
none_below_head x y ys rising less =
    either (lt_or_le 0 (occurrences x ys)) (λ h. absurd (omega (arith, rising.0 x h)))
    (λ h. omega (arith, one_if_other y x (λ e. omega arith)))

-- Two rising lists that have the same numbers are equal.
pub rising_unique :
    (xs ys : List ℕ) → Rising xs → Rising ys → ((p : ℕ) → occurrences p xs ≡ occurrences p ys) → xs ≡ ys
rising_unique [] [] risingˣ risingʸ h = refl
rising_unique [] (y ∷ ys) risingˣ risingʸ h = absurd (omega (arith, h y, one_if_same y y refl))
rising_unique (x ∷ xs) [] risingˣ risingʸ h = absurd (omega (arith, h x, one_if_same x x refl))
rising_unique (x ∷ xs) (y ∷ ys) risingˣ risingʸ h =
    let not-less : x < y → ⊥ = λ l. omega (arith, none_below_head x y ys risingʸ l, h x, one_if_same x x refl) in
    let not_more : y < x → ⊥ = λ l. omega (arith, none_below_head y x xs risingˣ l, h y, one_if_same y y refl) in
    let heads : x ≡ y = omega arith in
    let tails : xs ≡ ys =
    rising_unique xs ys risingˣ.1 risingʸ.1 (λ p. omega (arith, h p, ap (λ (z : ℕ). one_if z p) heads)) in
    cc

-- The same, where each number of the one stands in the other.
pub rising_same :
    (xs ys : List ℕ) → Rising xs → Rising ys → ((p : ℕ) → (0 < occurrences p xs) ↔ (0 < occurrences p ys)) → xs ≡ ys
rising_same xs ys risingˣ risingʸ h = rising_unique xs ys risingˣ risingʸ (λ p. same p (lt_or_le 0 (occurrences p xs)))
  where
    same : (p : ℕ) → (0 < occurrences p xs) ⊎ (occurrences p xs ≤ 0) → occurrences p xs ≡ occurrences p ys
    same p (inl l) = omega (arith, (h p).0 l, rising_once p xs risingˣ, rising_once p ys risingʸ)
    same p (inr l) = let none : 0 < occurrences p ys → ⊥ = λ k. omega (arith, (h p).1 k) in omega arith

-- In this list, those that pass the test stand in the order of their numbers.
abbrev pub InOrder : (ℕ → Bool) → List ℕ → Type 0
InOrder test xs =
    (p q : ℕ) → test p ≡ true → test q ≡ true → 0 < occurrences p xs → 0 < occurrences q xs → p < q → place p xs < place q xs

-- Cut down to those, the list rises.
pub rising_cut :
    (test : ℕ → Bool) (xs : List ℕ) → ((p : ℕ) → occurrences p xs ≤ 1) → InOrder test xs → Rising (select test xs)
rising_cut test [] once ordered = tt
rising_cut test (x ∷ xs) once ordered =
    let rest : Rising (select test xs) = rising_cut test xs (λ p. omega (arith, once p)) tail_ordered in
    by_test (test x) (λ e. rw e (least e, rest)) (λ e. rw e rest)
  where
    not_again : (y : ℕ) → 0 < occurrences y xs → x ≢ y
    not_again y c e = omega (arith, once y, one_if_same x y e)

    least : test x ≡ true → (y : ℕ) → 0 < occurrences y (select test xs) → x < y
    least e y c =
        let inside : 0 < occurrences y xs = omega (arith, occurrences_select_le test y xs) in
        either (lt_or_le y x)
        (λ l.
        let earlier = ordered y x (passed_of_select test y xs c) e (omega arith) (omega (arith, one_if_same x x refl)) l in
        absurd (omega (arith, place_here x x xs refl)))
        (λ l. omega (arith, not_again y inside))

    tail_ordered : InOrder test xs
    tail_ordered p q tp tq cp cq l =
        let earlier = ordered p q tp tq (omega arith) (omega arith) l in
        omega (arith, place_there p x xs (not_again p cp), place_there q x xs (not_again q cq))

-- A list that has the numbers of a rising list, each at most once, and those that pass the test in order, is that list when both are cut down.
pub cut_unique :
    (test : ℕ → Bool) (xs ys : List ℕ) → ((p : ℕ) → occurrences p xs ≡ occurrences p ys) → ((p : ℕ) → occurrences p xs ≤ 1)
    → InOrder test xs → Rising ys → select test xs ≡ select test ys
cut_unique test xs ys same once ordered rising =
    rising_unique (select test xs) (select test ys) (rising_cut test xs once ordered) (rising_select test ys rising)
    (occurrences_select_same test xs ys same)

-- ---- a list with its first m entries made 0

module _ (m : ℕ) (xs : List ℕ) where
  pub length_zeros_drop : m ≤ length xs → length (replicate m 0 ++ drop m xs) ≡ length xs
  length_zeros_drop h = simp (length-append, length-replicate, length-drop) (omega arith)

  -- Those are 0,
  pub get_d_zeros_drop_below : (i : ℕ) → i < m → get_or (replicate m 0 ++ drop m xs) i 0 ≡ 0
  get_d_zeros_drop_below i h =
      let inside : i < length (replicate {A = ℕ} m 0) = rw length-replicate h in
      get_or-append (replicate m 0) (drop m xs) 0 i inside ∙ get_or-replicate m i 0 0 h

  -- and the others are unchanged.
  pub get_d_zeros_drop_beyond : (i : ℕ) → m ≤ i → get_or (replicate m 0 ++ drop m xs) i 0 ≡ get_or xs i 0
  get_d_zeros_drop_beyond i h =
      let e : i ≡ length (replicate {A = ℕ} m 0) + (i - m) = rw length-replicate (omega arith) in
      let d : m + (i - m) ≡ i = omega arith in
      ap (λ (j : ℕ). get_or (replicate m 0 ++ drop m xs) j 0) e
      ∙ get_or-append-add (replicate m 0) (drop m xs) (i - m) 0
      ∙ get_or-drop m xs (i - m) 0
      ∙ ap (λ (j : ℕ). get_or xs j 0) d

-- ---- lists that count up

pub occurrences_count_up_below : (p k m : ℕ) → p < k → occurrences p (count_up k m) ≡ 0
occurrences_count_up_below p k zero h = refl
occurrences_count_up_below p k (suc m) h =
    omega (arith, one_if_other k p (λ e. omega arith), occurrences_count_up_below p (suc k) m (omega arith))

pub occurrences_count_up_inside : (p k m : ℕ) → k ≤ p → p < k + m → occurrences p (count_up k m) ≡ 1
occurrences_count_up_inside p k zero low high = omega arith
occurrences_count_up_inside p k (suc m) low high =
    either (same_or_not k p) (λ e. omega (arith, one_if_same k p e, occurrences_count_up_below p (suc k) m (omega arith)))
    (λ d. omega (arith, one_if_other k p d, occurrences_count_up_inside p (suc k) m (omega arith) (omega arith)))

pub occurrences_count_up_above : (p k m : ℕ) → k + m ≤ p → occurrences p (count_up k m) ≡ 0
occurrences_count_up_above p k zero h = refl
occurrences_count_up_above p k (suc m) h =
    omega (arith, one_if_other k p (λ e. omega arith), occurrences_count_up_above p (suc k) m (omega arith))

pub rising_count_up : (k m : ℕ) → Rising (count_up k m)
rising_count_up k zero = tt
rising_count_up k (suc m) = (
  λ y h. either (lt_or_le y (suc k)) (λ l. absurd (omega (arith, occurrences_count_up_below y (suc k) m l))) (λ l. l),
  rising_count_up (suc k) m,
)

pub length_count_up : (k m : ℕ) → length (count_up k m) ≡ m
length_count_up k zero = refl
length_count_up k (suc m) = ap suc (length_count_up (suc k) m)

pub count_up_snoc : (k m : ℕ) → count_up k (suc m) ≡ count_up k m ++ ((k + m) ∷ [])
count_up_snoc k zero = rw add-zero
count_up_snoc k (suc m) =
    let e : suc k + m ≡ k + suc m = omega arith in
    ap {B = List ℕ} (λ (z : List ℕ). k ∷ z)
    (count_up_snoc (suc k) m ∙ ap {B = List ℕ} (λ (z : ℕ). count_up (suc k) m ++ (z ∷ [])) e)

-- One more position at the end.
pub positions_snoc : (n : ℕ) → positions (suc n) ≡ positions n ++ (n ∷ [])
positions_snoc n = count_up_snoc 0 n ∙ ap {B = List ℕ} (λ (z : ℕ). positions n ++ (z ∷ [])) (zero-add n)

select_snoc : (test : ℕ → Bool) (n : ℕ) → select test (positions (suc n)) ≡ select test (positions n) ++ select test (n ∷ [])
select_snoc test n = ap (select test) (positions_snoc n) ∙ select_append test (positions n) (n ∷ [])

pub select_positions_failed :
    (test : ℕ → Bool) (n : ℕ) → test n ≡ false → select test (positions (suc n)) ≡ select test (positions n)
select_positions_failed test n h = select_snoc test n ∙ rw h (append-nil (select test (positions n)))

-- One stretch of positions after another.
pub count_up_append : (k m n : ℕ) → count_up k (m + n) ≡ count_up k m ++ count_up (k + m) n
count_up_append k zero n = rw (zero-add n, add-zero k)
count_up_append k (suc m) n =
    let e : suc k + m ≡ k + suc m = omega arith in
    let f : suc m + n ≡ suc (m + n) = omega arith in
    ap (count_up k) f
    ∙ ap (λ (l : List ℕ). k ∷ l) (count_up_append (suc k) m n ∙ ap (λ (q : ℕ). count_up (suc k) m ++ count_up q n) e)

-- Two tests that agree on some positions select the same of them.
pub select_count_up_same :
    (f g : ℕ → Bool) (k m : ℕ) → ((p : ℕ) → k ≤ p → p < k + m → f p ≡ g p) → select f (count_up k m) ≡ select g (count_up k m)
select_count_up_same f g k zero h = refl
select_count_up_same f g k (suc m) h =
    let rest = select_count_up_same f g (suc k) m (λ p low high. h p (omega arith) (omega arith)) in
    let here : f k ≡ g k = h k (omega arith) (omega arith) in
    rw (here, rest)

-- ---- positions of a stretch that pass a test

pub chosen_none : (test : ℕ → Bool) (from : ℕ) → chosen test from from ≡ []
unfolding chosen
chosen_none test from = let none : from - from ≡ 0 = omega arith in rw none

module _ (test : ℕ → Bool) (from p : ℕ) (low : from ≤ p) where
  -- Position p is added where it passes, else not.
  chosen_step : chosen test from (p + 1) ≡ chosen test from p ++ select test (p ∷ [])
  unfolding chosen
  chosen_step =
      let e : p + 1 - from ≡ suc (p - from) = omega arith in
      let f : from + (p - from) ≡ p = omega arith in
      ap (λ (m : ℕ). select test (count_up from m)) e
      ∙ (ap (select test) (count_up_snoc from (p - from) ∙ ap (λ (q : ℕ). count_up from (p - from) ++ (q ∷ [])) f)
      ∙ select_append test (count_up from (p - from)) (p ∷ []))

  pub chosen_passed : test p ≡ true → chosen test from (p + 1) ≡ chosen test from p ++ (p ∷ [])
  chosen_passed e = chosen_step ∙ rw e

  pub chosen_failed : test p ≡ false → chosen test from (p + 1) ≡ chosen test from p
  chosen_failed e = chosen_step ∙ rw e (append-nil (chosen test from p))

-- Where `to` is not past `from`, there is none.
pub chosen_empty : (test : ℕ → Bool) (from to : ℕ) → to ≤ from → chosen test from to ≡ []
unfolding chosen
chosen_empty test from to h = let none : to - from ≡ 0 = omega arith in rw none

-- Positions at the end of which none passes can be left out.
pub chosen_cut :
    (test : ℕ → Bool) (from to k : ℕ) → ((p : ℕ) → from ≤ p → to ≤ p → p < to + k → test p ≡ false) → chosen test from (to + k) ≡ chosen test from to
chosen_cut test from to zero fails = rw (add-zero to)
chosen_cut test from to (suc k) fails =
    let e : to + suc k ≡ to + k + 1 = omega arith in
    let less = chosen_cut test from to k (λ p low far h. fails p low far (omega arith)) in
    either (lt_or_le (to + k) from)
    (λ h. chosen_empty test from (to + suc k) (omega arith) ∙ sym (chosen_empty test from to (omega arith)))
    (λ h. ap (chosen test from) e ∙ (chosen_failed test from (to + k) h (fails (to + k) h (omega arith) (omega arith)) ∙ less))

pub chosen_few : (test : ℕ → Bool) (from k : ℕ) → length (chosen test from (from + k)) ≤ k
chosen_few test from zero = omega (arith, ap length (ap (chosen test from) (add-zero from) ∙ chosen_none test from))
chosen_few test from (suc k) =
    let e : from + suc k ≡ from + k + 1 = omega arith in
    let less = chosen_few test from k in
    by_test (test (from + k))
    (λ passed.
    omega (arith, ap length (ap (chosen test from) e ∙ chosen_passed test from (from + k) (omega arith) passed), length-append (chosen test from (from + k)) ((from + k) ∷ [])))
    (λ failed. omega (arith, ap length (ap (chosen test from) e ∙ chosen_failed test from (from + k) (omega arith) failed)))

-- Which those are, and that they rise.
pub chosen_iff : (test : ℕ → Bool) (from to p : ℕ) → (0 < occurrences p (chosen test from to)) ↔ ((from ≤ p) × (p < to) × (test p ≡ true))
unfolding chosen
chosen_iff test from to p = (
  λ h.
      let passed = passed_of_select test p (count_up from (to - from)) h in
      let some = occurrences_select_passed test p (count_up from (to - from)) passed in
      either (lt_or_le p from) (λ low. absurd (omega (arith, occurrences_count_up_below p from (to - from) low)))
      (λ low. either (lt_or_le p to) (λ high. (low, high, passed)) (λ high. absurd (omega (arith, occurrences_count_up_above p from (to - from) (omega arith))))),
  λ w.
      let low = w.0 in
      let high = w.1 in
      omega (arith, occurrences_select_passed test p (count_up from (to - from)) w.2, occurrences_count_up_inside p from (to - from) low (omega arith)),
)

pub chosen_rises : (test : ℕ → Bool) (from to : ℕ) → Rising (chosen test from to)
unfolding chosen
chosen_rises test from to = rising_select test (count_up from (to - from)) (rising_count_up from (to - from))

-- ---- lists that are stored in another

-- One list after another.
pub sets_append : (xs ys l : List ℕ) (i : ℕ) → sets l i (xs ++ ys) ≡ sets (sets l i xs) (i + length xs) ys
sets_append [] ys l i = rw add-zero
sets_append (x ∷ xs) ys l i =
    let e : suc i + length xs ≡ i + suc (length xs) = omega arith in
    sets_append xs ys (set l i x) (suc i) ∙ ap (λ (z : ℕ). sets (sets (set l i x) (suc i) xs) z ys) e

-- Cells past it are as they were.
pub drop_sets : (vs l : List ℕ) (i n : ℕ) → i + length vs ≤ n → drop n (sets l i vs) ≡ drop n l
drop_sets [] l i n h = refl
drop_sets (x ∷ vs) l i n h = drop_sets vs (set l i x) (suc i) n (omega arith) ∙ drop-set-lt n l i x (omega arith)

-- From cell 0 on.
pub sets_front : (vs l : List ℕ) (n : ℕ) → length vs ≡ n → n ≤ length l → sets l 0 vs ≡ vs ++ drop n l
sets_front vs l n long room =
    let e : 0 + length vs ≡ n = omega arith in
    sets-eq vs l 0 (omega arith) ∙ ap (λ (k : ℕ). vs ++ drop k l) e
