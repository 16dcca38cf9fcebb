-- A number's text: "decimal, .. with no leading zero" (document 01, "The text form"; document 02, K4). Bytes are ASCII codes. Assumes nothing.
use Rattle.std.specs.Prelude.{ℕ, zero, suc, ◌+◌, ◌/◌, ◌%◌, cond, List, [], ◌∷◌, ◌++◌, ltb}

-- n in base ten with no leading zero, in at most `suc more` digits.
abbrev pub digits : ℕ → ℕ → List ℕ
digits zero n = (48 + n) ∷ []
digits (suc more) n = cond (ltb n 10) ((48 + n) ∷ []) (digits more (n / 10) ++ ((48 + n % 10) ∷ []))

-- Twenty digits are enough for every number below 2 to the power of 64.
unfoldable pub decimal : ℕ → List ℕ
decimal n = digits 19 n
