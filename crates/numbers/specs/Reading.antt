-- The reader of numbers, as long as one goes. `Decimal` says what is right; the theorems of `proofs/Decimal.antt` say that the reader takes exactly that.
-- Assumes nothing.
use Rattle.std.specs.Prelude.{ℕ, ◌+◌, ◌-◌, ◌*◌, Bool, cond, List, [], ◌∷◌, ltb, eqb}
use Rattle.std.proofs.Math.Option.{Option, none, some}
use Rattle.numbers.specs.Options.{maybe, ◌then◌}

-- A token and the bytes after it, or none.
abbrev pub Token : Type 0 → Type 0
Token A = Option (A × List ℕ)

-- The digit that a byte is: `0` is 48, `9` is 57.
unfoldable pub digit : ℕ → Option ℕ
digit b = cond (ltb b 48) none (cond (ltb 57 b) none (some (b - 48)))

-- "with no leading zero": a number that begins with 0 is whole.
unfoldable pub is_whole : ℕ → Bool
is_whole v = eqb v 0

-- Numbers up to `greatest`.
module _ (greatest : ℕ) where
  unfoldable pub is_too_large : ℕ → Bool
  is_too_large n = ltb greatest n

  -- The number v with the digit b after it, where there is one.
  unfoldable pub extended : ℕ → ℕ → Option ℕ
  extended v b =
      cond (is_whole v) none (digit b then λ d. cond (is_too_large (v * 10 + d)) none (some (v * 10 + d)))

  -- The number that has begun with v, as long as it goes.
  abbrev pub scan : ℕ → List ℕ → ℕ × List ℕ
  scan v [] = (v, [])
  scan v (b ∷ s) = maybe (extended v b) (v, b ∷ s) (λ w. scan w s)

  abbrev pub number : List ℕ → Token ℕ
  number [] = none
  number (b ∷ s) = digit b then λ d. some (scan d s)
