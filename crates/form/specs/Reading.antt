-- The reader of the form: "A text line is read left to right from its T", and "the first byte that doesn't fit gives 14". Each token is what a list of bytes
-- begins with, and the bytes after it.
-- `Form` says what is right; the theorems of `proofs/Lines.antt` and `proofs/TextForm.antt` say that the reader takes exactly that. Assumes nothing.
use Rattle.std.specs.Prelude.{ℕ, zero, suc, cond, List, [], ◌∷◌, eqb, length}
use Rattle.std.proofs.Math.Option.{Option, none, some}
use Rattle.numbers.specs.Options.{maybe, ◌then◌, ◌else◌}
use Rattle.numbers.specs.Reading.{Token, number}
use Rattle.form.specs.Form.{GREATEST, opening}
use Rattle.form.specs.declared.Line.{Line}
use Rattle.form.specs.declared.Operation.{Operation}
use Rattle.form.specs.declared.Operation.TheVariants.{Read, Write, Fork, Join}

-- The bytes after a word.
abbrev pub word : List ℕ → List ℕ → Option (List ℕ)
word [] s = some s
word (w ∷ ws) [] = none
word (w ∷ ws) (b ∷ s) = cond (eqb b w) (word ws s) none

abbrev pub opens : Operation → List ℕ → Token Operation
opens o s = word (opening o) s then λ rest. some (o, rest)

abbrev pub operation : List ℕ → Token Operation
operation s = opens Read s else (opens Write s else (opens Fork s else opens Join s))

-- A number between two words.
unfoldable pub field : List ℕ → List ℕ → List ℕ → Token ℕ
field before after s =
    word before s then λ s₁. number GREATEST s₁ then λ n. word after n.1 then λ s₂. some (n.0, s₂)

-- A line from its T to its line feed.
unfoldable pub line : List ℕ → Token Line
line s =
    field (84 ∷ []) (124 ∷ []) s then λ a.
    operation a.1 then λ o.
    field [] (41 ∷ 124 ∷ []) o.1 then λ b.
    field [] (10 ∷ []) b.1 then λ c.
    some (record { task = a.0; operation = o.0; operand = b.0; source = c.0 }, c.1)

-- A text as it is read: its lines one after the other, up to its end or to bytes that begin with no line.
pub data Parsed : Type 0 where
  ends : Parsed
  malformed : Parsed
  line_then : Line → Parsed → Parsed

-- The first lines of a text. A line has a byte at least, so with more lines than bytes allowed the case of none left never comes.
abbrev pub parse_within : ℕ → List ℕ → Parsed
parse_within zero s = malformed
parse_within (suc lines) [] = ends
parse_within (suc lines) (b ∷ s) = maybe (line (b ∷ s)) malformed (λ l. line_then l.0 (parse_within lines l.1))

unfoldable pub parse : List ℕ → Parsed
parse text = parse_within (suc (length text)) text
