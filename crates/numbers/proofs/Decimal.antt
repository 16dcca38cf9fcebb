-- Decimal numbers: the reader of numbers takes back what `decimal` prints (`number_decimal`, `number_whole`), and takes nothing else (`number_printed`,
-- `no_number`). Assumes nothing.
use Prim.Native.Nat.{ℕ, zero, suc, ◌+◌, ◌-◌, ◌*◌, ◌/◌, ◌%◌, ◌<◌, ◌≤◌}
use native.Mathlib.Omega.{arith}
use mathlib.Core.Path.{◌≡◌, refl, ap, ◌∙◌}
use mathlib.Core.List.{List, [], ◌∷◌, ◌++◌, append_assoc}
use mathlib.Core.Option.{Option, none, some}
use lib.Dec.{ltb}
use lib.ListN.{length, length-append}
use borrow.Author.Tests.{ltb-true, ltb-false, lt-ltb, le-ltb}
use Rattle.trace.proofs.Tests.{by_test, Tests, tests_fails, tests_false, test_eq, test_lt}
use Rattle.numbers.specs.Decimal.{digits, decimal}
use Rattle.numbers.specs.Reading.{digit, is_whole, is_too_large, extended, scan, number}
use Rattle.numbers.proofs.Tokens.{by_token, Each, nothing, found, each_some}

-- ---- the digits of a number

-- Numbers below this have at most `suc more` digits.
abbrev limit : ℕ → ℕ
limit zero = 10
limit (suc more) = limit more * 10

-- A digit more than enough changes nothing.
digits_enough : (more n : ℕ) → n < limit more → digits (suc more) n ≡ digits more n
digits_enough zero n h = rw (lt-ltb n 10 h)
digits_enough (suc more) n h =
    by_test (ltb n 10) (λ e. rw e) (λ e. rw (e, digits_enough more (n / 10) (omega arith)))

length_digits : (more n : ℕ) → length (digits more n) ≤ suc more
length_digits zero n = omega arith
length_digits (suc more) n =
    by_test (ltb n 10) (λ e. rw e (omega arith))
    (λ e. rw (e, length-append) (let i = length_digits more (n / 10) in omega arith))

pub length_decimal_le : (n : ℕ) → length (decimal n) ≤ 20
unfolding decimal
length_decimal_le n = length_digits 19 n

length_digits_small : (more k n : ℕ) → n < limit k → length (digits more n) ≤ suc k
length_digits_small zero k n h = omega arith
length_digits_small (suc more) zero n h = rw (lt-ltb n 10 h) (omega arith)
length_digits_small (suc more) (suc k) n h =
    by_test (ltb n 10) (λ e. rw e (omega arith))
    (λ e. rw (e, length-append) (let i = length_digits_small more k (n / 10) (omega arith) in omega arith))

-- The greatest number that the code reads, which a u16 holds.
abbrev pub READABLE : ℕ
READABLE = 65535

-- A number that the code reads has at most five digits.
pub length_decimal : (n : ℕ) → n ≤ READABLE → length (decimal n) ≤ 5
unfolding decimal
length_decimal n h = length_digits_small 19 4 n (omega arith)

pub decimal_digit : (d : ℕ) → d < 10 → decimal d ≡ (48 + d) ∷ []
unfolding decimal
decimal_digit d h = rw (lt-ltb d 10 h)

-- 2 to the power of 64.
abbrev pub NUMBERS : ℕ
NUMBERS = 18446744073709551616

-- One more digit, and the last digit taken off.
pub decimal_more : (v d : ℕ) → 0 < v → d < 10 → v * 10 + d < NUMBERS → decimal (v * 10 + d) ≡ decimal v ++ ((48 + d) ∷ [])
unfolding decimal
decimal_more v d p h k =
    let q : (v * 10 + d) / 10 ≡ v = omega arith in
    let m : (v * 10 + d) % 10 ≡ d = omega arith in
    rw (le-ltb (v * 10 + d) 10 (omega arith), q, m, ← digits_enough 18 v (omega arith))

pub decimal_split : (n : ℕ) → 10 ≤ n → n < NUMBERS → decimal n ≡ decimal (n / 10) ++ ((48 + n % 10) ∷ [])
decimal_split n h k =
    let e : n / 10 * 10 + n % 10 ≡ n = omega arith in
    rw e at (decimal_more (n / 10) (n % 10) (omega arith) (omega arith) (omega arith))

-- ---- one byte of a number

digit_of : (d : ℕ) → d < 10 → digit (48 + d) ≡ some d
unfolding digit
digit_of d h =
    rw (le-ltb (48 + d) 48 (omega arith), le-ltb 57 (48 + d) (omega arith))
    (ap (λ (n : ℕ). some n) (omega arith))

digit_printed : (b : ℕ) → Each (λ d. (d < 10) × (48 + d ≡ b)) (digit b)
unfolding digit
digit_printed b =
    by_test (ltb b 48) (λ e. rw e nothing)
    (λ e. let l = ltb-false b 48 e in
    by_test (ltb 57 b) (λ f. rw (e, f) nothing)
    (λ f. let u = ltb-false 57 b f in rw (e, f) (found {a = b - 48} (omega arith, omega arith))))

pub test_whole : (v : ℕ) → Tests (is_whole v) (v ≡ 0)
unfolding is_whole
test_whole v = test_eq v 0

-- The byte that comes next, if any.
abbrev pub first : List ℕ → Option ℕ
first [] = none
first (b ∷ s) = some b

module _ (greatest : ℕ) where
  pub test_too_large : (n : ℕ) → Tests (is_too_large greatest n) (greatest < n)
  unfolding is_too_large
  test_too_large n = test_lt greatest n

  pub extended_stops : (v b : ℕ) → digit b ≡ none → extended greatest v b ≡ none
  unfolding extended
  extended_stops v b e = by_test (is_whole v) (λ f. rw f) (λ f. rw (f, e))

  -- The byte that comes next, if any, does not go on with the number v.
  abbrev pub Unextended : ℕ → Option ℕ → Type 0
  Unextended v h = Each (λ b. extended greatest v b ≡ none) h

  -- Then the number ends here.
  pub scan_ends : (v : ℕ) (s : List ℕ) → Unextended v (first s) → scan greatest v s ≡ (v, s)
  scan_ends v [] u = refl
  scan_ends v (b ∷ s) u = rw (each_some u)

  -- Where there is no number, there is no digit.
  pub no_number : (s : List ℕ) → number greatest s ≡ none → Each (λ b. digit b ≡ none) (first s)
  no_number [] e = nothing
  no_number (b ∷ s) e =
      by_token (digit b) (λ f. found f) (λ d f. let z : ◌≡◌ {A = ℕ} 0 1 = cc (rw f at e) in absurd (omega arith))

  -- Every digit is a number, and the code can read them all.
  module _ (digits-fit : 9 ≤ greatest) (readable : greatest ≤ READABLE) where
    extended_of : (v d : ℕ) → 0 < v → d < 10 → v * 10 + d ≤ greatest → extended greatest v (48 + d) ≡ some (v * 10 + d)
    unfolding extended
    extended_of v d p h k =
        rw (
          tests_false (is_whole v) (test_whole v) (λ z. omega arith),
          digit_of d h,
          tests_false (is_too_large greatest (v * 10 + d)) (test_too_large (v * 10 + d)) (λ z. omega arith),
        )

    record Extended (v b w : ℕ) : Type 0 where
      in_range : w ≤ greatest
      bytes : decimal v ++ (b ∷ []) ≡ decimal w

    extended_printed : (v b : ℕ) → Each (Extended v b) (extended greatest v b)
    unfolding extended
    extended_printed v b =
        by_test (is_whole v) (λ e. rw e nothing)
        (λ e. let p = tests_fails (is_whole v) (test_whole v) e in
        by_token (digit b) (λ f. rw (e, f) nothing)
        (λ d f. let q = each_some (rw f at (digit_printed b)) in
        by_test (is_too_large greatest (v * 10 + d)) (λ g. rw (e, f, g) nothing)
        (λ g. let k = tests_fails (is_too_large greatest (v * 10 + d)) (test_too_large (v * 10 + d)) g in
        rw (e, f, g)
        (found {a = v * 10 + d} (record {
          in_range = omega arith;
          bytes = rw (decimal_more v d (omega arith) q.0 (omega arith), q.1);
        })))))

    -- ---- the reader takes back what is printed

    number_digits : (more n : ℕ) (s : List ℕ) → n < limit more → n ≤ greatest → number greatest (digits more n ++ s) ≡ some (scan greatest n s)
    number_digits zero n s h k = rw (digit_of n h)
    number_digits (suc more) n s h k =
        by_test (ltb n 10) (λ e. rw (e, digit_of n (ltb-true n 10 e)))
        (λ e. let l = ltb-false n 10 e in
        let same : n / 10 * 10 + n % 10 ≡ n = omega arith in
        rw (
          e,
          append_assoc,
          number_digits more (n / 10) ((48 + n % 10) ∷ s) (omega arith) (omega arith),
          extended_of (n / 10) (n % 10) (omega arith) (omega arith) (omega arith),
          same,
        ))

    -- A printed number is read whole where the byte after it does not go on with it,
    pub number_whole : (n : ℕ) (s : List ℕ) → n ≤ greatest → Unextended n (first s) → number greatest (decimal n ++ s) ≡ some (n, s)
    unfolding decimal
    number_whole n s h u = number_digits 19 n s (omega arith) h ∙ rw (scan_ends n s u)

    -- as one that is no digit does not.
    pub number_decimal : (n b : ℕ) (s : List ℕ) → n ≤ greatest → digit b ≡ none → number greatest (decimal n ++ (b ∷ s)) ≡ some (n, b ∷ s)
    number_decimal n b s h e = number_whole n (b ∷ s) h (found (extended_stops n b e))

    -- ---- and takes nothing else

    pub record Printed (s : List ℕ) (n : ℕ) (rest : List ℕ) : Type 0 where
      pub in_range : n ≤ greatest
      pub bytes : s ≡ decimal n ++ rest
      pub whole : Unextended n (first rest)

    scan_printed : (v : ℕ) (s : List ℕ) → v ≤ greatest → Printed (decimal v ++ s) (scan greatest v s).0 (scan greatest v s).1
    scan_printed v [] h = record { in_range = h; bytes = refl; whole = nothing }
    scan_printed v (b ∷ s) h =
        by_token (extended greatest v b) (λ e. rw e (record { in_range = h; bytes = refl; whole = found e }))
        (λ w e. let x = each_some (rw e at (extended_printed v b)) in
        let i = scan_printed w s x.in_range in
        let j : decimal v ++ (b ∷ s) ≡ decimal w ++ s = rw (← x.bytes, append_assoc) in
        rw e (record { in_range = i.in_range; bytes = j ∙ i.bytes; whole = i.whole }))

    -- A number that is read was printed, is in range, and goes as far as it can.
    pub number_printed : (s : List ℕ) → Each (λ n. Printed s n.0 n.1) (number greatest s)
    number_printed [] = nothing
    number_printed (b ∷ s) =
        by_token (digit b) (λ e. rw e nothing)
        (λ d e. let q = each_some (rw e at (digit_printed b)) in
        let i = scan_printed d s (omega arith) in
        let j : b ∷ s ≡ decimal d ++ s = rw (decimal_digit d q.0, q.1) in
        rw e (found (record { in_range = i.in_range; bytes = j ∙ i.bytes; whole = i.whole })))
