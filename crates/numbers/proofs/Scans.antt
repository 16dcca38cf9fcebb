-- The laws behind the code: one for each `return` of `extend` and of `number_at`, whose loop keeps that what is left to read from here is what was to be read
-- from the start. Their premises stand as the code's tests and the callees' promises do, so that `search` finds them. Assumes nothing.
use Prim.Native.Nat.{ℕ, ◌+◌, ◌*◌, ◌≤◌, ◌<◌}
use native.Mathlib.Numerals.{add-one}
use native.Mathlib.Omega.{arith}
use mathlib.Core.Path.{◌≡◌, refl, ◌∙◌}
use mathlib.Core.Bool.{false}
use mathlib.Core.List.{List}
use mathlib.Core.Option.{none, some}
use lib.ListN.{length, get_or, drop, drop_of_length-le}
use lib.Seq.{drop-cons}
use Rattle.trace.proofs.Tests.{tests_false}
use Rattle.numbers.specs.Reading.{digit, is_whole, is_too_large, extended, scan, number}
use Rattle.numbers.proofs.Decimal.{test_whole, test_too_large}

module _ (greatest : ℕ) where
  -- ---- `extend`: the number with the digit that may follow

  pub extended_zero : (v b : ℕ) → v ≡ 0 → none ≡ extended greatest v b
  unfolding extended
  extended_zero v b e = rw ((test_whole v).1 e)

  module _ (v b : ℕ) (begun : v ≡ 0 → ⊥) where
    not_whole : is_whole v ≡ false
    not_whole = tests_false (is_whole v) (test_whole v) begun

    pub extended_other : none ≡ digit b → none ≡ extended greatest v b
    unfolding extended
    extended_other e = rw (not_whole, ← e)

    pub extended_large : (d : ℕ) → some d ≡ digit b → greatest < v * 10 + d → none ≡ extended greatest v b
    unfolding extended
    extended_large d e h = rw (not_whole, ← e, (test_too_large greatest (v * 10 + d)).1 h)

    pub extended_more : (d n : ℕ) → some d ≡ digit b → n ≡ v * 10 + d → n ≤ greatest → some n ≡ extended greatest v b
    unfolding extended
    extended_more d n e s h =
        rw (not_whole, ← e, ← s, tests_false (is_too_large greatest n) (test_too_large greatest n) (λ z. omega arith))

  -- ---- `number_at`

  -- The number so far and the rest of the text, against the first digit and what follows it at `from`.
  pub record Counting (text : List ℕ) (from first at value : ℕ) : Type 0 where
    pub within : at ≤ length text
    pub left : scan greatest value (drop at text) ≡ scan greatest first (drop from text)

  module _ (text : List ℕ) (start : ℕ) (h : start < length text) (byte first : ℕ) (here : byte ≡ get_or text start 0) (read : some first ≡ digit byte)
      (at value : ℕ) (k : Counting text (start + 1) first at value) where
    counted : some (scan greatest value (drop at text)) ≡ number greatest (drop start text)
    counted = rw (k.left, drop-cons text start 0 h, ← here, ← read, add-one)

    pub number_whole : length text ≤ at → some (value, drop (length text) text) ≡ number greatest (drop start text)
    number_whole e =
        let same : at ≡ length text = (let w = k.within in omega arith) in
        let whole : length text ≤ length text = omega arith in
        (rw (same, drop_of_length-le text)) ∙ counted

    pub number_stops : at < length text → none ≡ extended greatest value (get_or text at 0)
        → some (value, drop at text) ≡ number greatest (drop start text)
    number_stops l e = (rw (drop-cons text at 0 l, ← e)) ∙ counted

  pub counting_begins : (text : List ℕ) (from first : ℕ) → from ≤ length text → Counting text from first from first
  counting_begins text from first h = record { within = h; left = refl }
