-- What each answer of the code says: the digit or number so far, and the number with the bytes after it. Assumes nothing.
use Rattle.std.specs.Prelude.{ℕ, ◌≤◌, List, length, drop, Some, None}
use Rattle.std.specs.Prelude as code
use Rattle.std.proofs.Math.Option.{Option, none, some}
use Rattle.numbers.specs.Reading.{Token}
use Rattle.numbers.specs.declared.Number.{Number}

abbrev pub numeral_of : code.Option ℕ → Option ℕ
numeral_of (Some n) = some n
numeral_of None = none

abbrev pub after_number : List ℕ → code.Option Number → Token ℕ
after_number text (Some n) = some (n.value, drop n.end text)
after_number text None = none

-- The place after a number is in the text, or its end.
abbrev pub Within : List ℕ → code.Option Number → Type 0
Within text (Some n) = n.end ≤ length text
Within text None = Unit {0}
