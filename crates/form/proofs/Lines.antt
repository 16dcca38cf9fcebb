-- The two theorems on lines: the reader takes back what is printed (`line_print`), and what it takes was printed (`line_printed`). And a line has at
-- most 26 bytes (`length_print`). Assumes nothing.
use Prim.Native.Nat.{ℕ, ◌≤◌}
use native.Mathlib.Omega.{arith}
use mathlib.Core.Path.{◌≡◌, refl}
use mathlib.Core.List.{List, [], ◌∷◌, ◌++◌, append_assoc}
use mathlib.Core.Option.{none, some}
use lib.Dec.{eqb}
use lib.ListN.{length, length-append}
use borrow.Author.Tests.{eqb-true, eq-eqb}
use Rattle.trace.proofs.Tests.{by_test}
use Rattle.numbers.specs.Decimal.{decimal}
use Rattle.numbers.specs.Reading.{digit}
use Rattle.form.specs.Form.{GREATEST, opening, print, InRange}
use Rattle.form.specs.Reading.{word, opens, operation, field, line}
use Rattle.form.specs.declared.Line.{Line}
use Rattle.form.specs.declared.Operation.{Operation}
use Rattle.form.specs.declared.Operation.TheVariants.{Read, Write, Fork, Join}
use Rattle.numbers.proofs.Tokens.{Each, nothing, found, each_some, each_map, each_then, each_else}
use Rattle.numbers.proofs.Decimal.{number_decimal, number_printed, length_decimal}

-- ---- what is printed is read

word_append : (w s : List ℕ) → word w (w ++ s) ≡ some s
word_append [] s = refl
word_append (b ∷ w) s = rw (eq-eqb b b refl, word_append w s)

operation_opening : (o : Operation) (s : List ℕ) → operation (opening o ++ s) ≡ some (o, s)
operation_opening Read s = refl
operation_opening Write s = refl
operation_opening Fork s = refl
operation_opening Join s = refl

field_decimal : (before : List ℕ) (n a : ℕ) (after s : List ℕ) → n ≤ GREATEST → digit a ≡ none
    → field before (a ∷ after) (before ++ (decimal n ++ (a ∷ (after ++ s)))) ≡ some (n, s)
unfolding field
field_decimal before n a after s h e =
    rw (word_append before (decimal n ++ (a ∷ (after ++ s))), number_decimal GREATEST (omega arith) (omega arith) n a (after ++ s) h e, word_append (a ∷ after) s)

pub line_print : (l : Line) (rest : List ℕ) → InRange l → line (print l ++ rest) ≡ some (l, rest)
unfolding line digit
line_print l rest r =
    simp append_assoc
    (rw (
      field_decimal (84 ∷ []) l.task 124 [] _ r.task refl,
      operation_opening l.operation _,
      field_decimal [] l.operand 41 (124 ∷ []) _ r.operand refl,
      field_decimal [] l.source 10 [] _ r.source refl,
    ))

-- ---- what is read was printed

word_printed : (w s : List ℕ) → Each (λ rest. s ≡ w ++ rest) (word w s)
word_printed [] s = found refl
word_printed (b ∷ w) [] = nothing
word_printed (b ∷ w) (x ∷ s) =
    by_test (eqb x b)
    (λ e. rw e (each_map (λ rest h. let q = eqb-true x b e in cc) (word_printed w s)))
    (λ e. rw e nothing)

operation_printed : (s : List ℕ) → Each (λ o. s ≡ opening o.0 ++ o.1) (operation s)
operation_printed s =
    each_else (opens_printed Read) (each_else (opens_printed Write) (each_else (opens_printed Fork) (opens_printed Join)))
  where
    opens_printed : (o : Operation) → Each (λ q. s ≡ opening q.0 ++ q.1) (opens o s)
    opens_printed o = each_then (λ rest. some (o, rest)) (word_printed (opening o) s) (λ rest h. found h)

record FieldPrinted (before after s : List ℕ) (n : ℕ) (rest : List ℕ) : Type 0 where
  in_range : n ≤ GREATEST
  bytes : s ≡ before ++ (decimal n ++ (after ++ rest))

field_printed : (before after s : List ℕ) → Each (λ n. FieldPrinted before after s n.0 n.1) (field before after s)
unfolding field
field_printed before after s =
    each_then _ (word_printed before s)
    (λ s₁ h₁. each_then _ (number_printed GREATEST (omega arith) (omega arith) s₁)
    (λ n p. each_then _ (word_printed after n.1)
    (λ s₂ h₂. found (record { in_range = p.in_range; bytes = rw (h₁, p.bytes, h₂) }))))

-- What a line that is read says of the bytes.
pub record LinePrinted (s : List ℕ) (l : Line) (rest : List ℕ) : Type 0 where
  pub in_range : InRange l
  pub bytes : s ≡ print l ++ rest

each_line_printed : (s : List ℕ) → Each (λ l. LinePrinted s l.0 l.1) (line s)
unfolding line
each_line_printed s =
    each_then _ (field_printed (84 ∷ []) (124 ∷ []) s)
    (λ a p. each_then _ (operation_printed a.1)
    (λ o h. each_then _ (field_printed [] (41 ∷ 124 ∷ []) o.1)
    (λ b q. each_then _ (field_printed [] (10 ∷ []) b.1)
    (λ c r. found (record {
      in_range = record { task = p.in_range; operand = q.in_range; source = r.in_range };
      bytes = simp append_assoc (rw (p.bytes, h, q.bytes, r.bytes));
    })))))

pub line_printed : (s : List ℕ) (l : Line) (rest : List ℕ) → line s ≡ some (l, rest) → LinePrinted s l rest
line_printed s l rest e = each_some (rw e at (each_line_printed s))

-- ---- a line's length

pub length_print : (l : Line) → InRange l → length (print l) ≤ 26
length_print l r =
    let a = length_decimal l.task r.task in
    let o = length_opening l.operation in
    let b = length_decimal l.operand r.operand in
    let c = length_decimal l.source r.source in
    simp length-append (omega arith)
  where
    length_opening : (o : Operation) → length (opening o) ≤ 6
    length_opening Read = omega arith
    length_opening Write = omega arith
    length_opening Fork = omega arith
    length_opening Join = omega arith
