-- The program's output (document 01, "The text form"), and what a lent buffer holds of it. Assumes nothing.
use Rattle.std.specs.Prelude.{ℕ, ◌+◌, Bool, true, cond, ◌&&◌, List, [], ◌∷◌, ◌++◌, leb, ltb, length, take, drop, set}
use Rattle.trace.specs.Outcome.{Reply, says, refused, Verdict, clean, race}
use Rattle.numbers.specs.Decimal.{decimal}
use Rattle.form.specs.Decided.{MAX_TEXT_EVENTS}

-- `clean`, `race`, `refused`
abbrev pub CLEAN : List ℕ
CLEAN = 99 ∷ 108 ∷ 101 ∷ 97 ∷ 110 ∷ []

abbrev pub RACE : List ℕ
RACE = 114 ∷ 97 ∷ 99 ∷ 101 ∷ []

abbrev pub REFUSED : List ℕ
REFUSED = 114 ∷ 101 ∷ 102 ∷ 117 ∷ 115 ∷ 101 ∷ 100 ∷ []

-- What follows the first word of a line: the numbers, "single spaces, a line feed after every line".
abbrev pub rest : List ℕ → List ℕ
rest [] = 10 ∷ []
rest (n ∷ ns) = 32 ∷ (decimal n ++ rest ns)

-- An order as a line.
abbrev pub order_line : List ℕ → List ℕ
order_line [] = 10 ∷ []
order_line (n ∷ ns) = decimal n ++ rest ns

-- "After a race the two orders follow, one a line." They are the first t + 1 cells of the two order buffers.
unfoldable pub order_lines : ℕ → List ℕ → List ℕ → List ℕ
order_lines t first second = order_line (take (t + 1) first) ++ order_line (take (t + 1) second)

-- "Output is one line: `clean` and the event count; `race`, s and t; or `refused`, number and position; single spaces, a line feed after every
-- line."
unfoldable pub output : Reply Verdict → ℕ → List ℕ → List ℕ → List ℕ
output (says clean) count first second = CLEAN ++ rest (count ∷ [])
output (says (race s t)) count first second = (RACE ++ rest (s ∷ t ∷ [])) ++ order_lines t first second
output (refused number position) count first second = REFUSED ++ rest (number ∷ position ∷ [])

-- ---- the lent buffer

-- A buffer that is filled from its start on, and how many of its bytes are used.
pub record Buffer : Type 0 where
  pub bytes : List ℕ
  pub used : ℕ

abbrev pub buffer : List ℕ → ℕ → Buffer
buffer bytes used = record { bytes = bytes; used = used }

-- One more byte, where there is room for it.
unfoldable pub add_byte : Buffer → ℕ → Buffer
add_byte b byte = cond (ltb b.used (length b.bytes)) (buffer (set b.bytes b.used byte) (b.used + 1)) b

abbrev pub add : Buffer → List ℕ → Buffer
add b [] = b
add b (byte ∷ more) = add (add_byte b byte) more

-- A size that is enough: one line of at most 50 bytes, and two orders of at most 2,048 numbers of at most 20 digits, each with a byte after it.
abbrev pub OUTPUT_BYTES : ℕ
OUTPUT_BYTES = 86066

-- An answer about a text's trace: it has 2,048 events at most.
abbrev pub of_text : Reply Verdict → Bool
of_text (says clean) = true
of_text (says (race s t)) = ltb t MAX_TEXT_EVENTS
of_text (refused number position) = true

-- THE BUFFER after an answer: the whole output and its length, the bytes past it as they were; nothing where the buffer is shorter than OUTPUT-BYTES
-- or the answer is none about a text's trace.
unfoldable pub rendered : Reply Verdict → ℕ → List ℕ → List ℕ → List ℕ → Buffer
rendered reply count first second out =
    cond (leb OUTPUT_BYTES (length out) && of_text reply)
    (buffer (output reply count first second ++ drop (length (output reply count first second)) out) (length (output reply count first second)))
    (buffer out 0)
