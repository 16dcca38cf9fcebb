-- The text form (document 01, "The text form"), by printing: a text is of the form exactly if it is the printed lines of some list of lines.
-- Bytes are ASCII codes. Assumes nothing.
use Rattle.std.specs.Prelude.{ℕ, ◌≤◌, ◌≡◌, List, [], ◌∷◌, ◌++◌}
use Rattle.numbers.specs.Decimal.{decimal}
use Rattle.form.specs.declared.Line.{Line}
use Rattle.form.specs.declared.Operation.{Operation}
use Rattle.form.specs.declared.Operation.TheVariants.{Read, Write, Fork, Join}

-- "0 to 65,535"
abbrev pub GREATEST : ℕ
GREATEST = 65535

-- `r(V`, `w(V`, `fork(T`, `join(T`: an operation up to the letter of its operand.
abbrev pub opening : Operation → List ℕ
opening Read = 114 ∷ 40 ∷ 86 ∷ []
opening Write = 119 ∷ 40 ∷ 86 ∷ []
opening Fork = 102 ∷ 111 ∷ 114 ∷ 107 ∷ 40 ∷ 84 ∷ []
opening Join = 106 ∷ 111 ∷ 105 ∷ 110 ∷ 40 ∷ 84 ∷ []

-- "`Ta|r(Vb)|c`, `Ta|w(Vb)|c`, `Ta|fork(Tb)|c`, `Ta|join(Tb)|c`, each ended by a line feed"
abbrev pub print : Line → List ℕ
print l =
    84
    ∷ (decimal l.task
    ++ (124 ∷ (opening l.operation ++ (decimal l.operand ++ (41 ∷ 124 ∷ (decimal l.source ++ (10 ∷ [])))))))

-- "Each number is decimal, 0 to 65,535"
pub record InRange (l : Line) : Type 0 where
  pub task : l.task ≤ GREATEST
  pub operand : l.operand ≤ GREATEST
  pub source : l.source ≤ GREATEST

pub data AllInRange : List Line → Type 0 where
  no_line : AllInRange []
  one_more : {l : Line} {lines : List Line} → InRange l → AllInRange lines → AllInRange (l ∷ lines)

-- The lines of a text, one after the other.
abbrev pub print_all : List Line → List ℕ
print_all [] = []
print_all (l ∷ lines) = print l ++ print_all lines

-- A text is the print of some lines, and then these bytes.
pub record LinesBefore (text rest : List ℕ) : Type 0 where
  pub lines : List Line
  pub in_range : AllInRange lines
  pub printed : text ≡ print_all lines ++ rest

-- A text is of the form: it is the print of some lines, and then nothing.
abbrev pub OfForm : List ℕ → Type 0
OfForm text = LinesBefore text []

-- "a line isn't of the text form": these bytes begin with the print of no line, though there are some.
pub record BeginsWithNoLine (rest : List ℕ) : Type 0 where
  pub some_left : rest ≡ [] → ⊥
  pub no_line : (l : Line) (after : List ℕ) → InRange l → rest ≡ print l ++ after → ⊥
