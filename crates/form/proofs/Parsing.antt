-- How a text is read line by line: at its end, at bytes that begin with no line, and at a line (`parse_nil`, `parse_none`, `parse_line`).
-- Assumes nothing.
use Prim.Native.Nat.{ℕ, zero, suc, ◌<◌}
use native.Mathlib.Omega.{arith}
use mathlib.Core.Path.{◌≡◌, refl, ap}
use mathlib.Core.List.{List, [], ◌∷◌}
use mathlib.Core.Option.{none, some}
use lib.ListN.{length, length-append}
use Rattle.form.specs.Reading.{line, ends, malformed, line_then, parse_within, parse}
use Rattle.form.specs.declared.Line.{Line}
use Rattle.numbers.proofs.Tokens.{by_token}
use Rattle.form.proofs.Lines.{line_printed}

-- A line takes a byte at least.
pub length_after_line : (s : List ℕ) (l : Line) (rest : List ℕ) → line s ≡ some (l, rest) → length rest < length s
length_after_line s l rest e =
    let p = line_printed s l rest e in
    let k = simp length-append at (ap length p.bytes) in
    omega arith

-- With more lines allowed than bytes, how many are allowed does not matter.
parse_within_law : (m n : ℕ) (s : List ℕ) → length s < m → length s < n → parse_within m s ≡ parse_within n s
parse_within_law zero n s h k = absurd (omega arith)
parse_within_law (suc m) zero s h k = absurd (omega arith)
parse_within_law (suc m) (suc n) [] h k = refl
parse_within_law (suc m) (suc n) (b ∷ s) h k =
    by_token (line (b ∷ s)) (λ e. rw e)
    (λ l e. let i = length_after_line (b ∷ s) l.0 l.1 e in
    rw (e, parse_within_law m n l.1 (omega arith) (omega arith)))

pub parse_nil : parse [] ≡ ends
unfolding parse
parse_nil = refl

pub parse_none : (s : List ℕ) → (s ≡ [] → ⊥) → line s ≡ none → parse s ≡ malformed
unfolding parse
parse_none [] h e = absurd (h refl)
parse_none (b ∷ s) h e = rw e

pub parse_line : (s : List ℕ) (l : Line) (rest : List ℕ) → line s ≡ some (l, rest) → parse s ≡ line_then l (parse rest)
unfolding parse
parse_line [] l rest e = let i = length_after_line [] l rest e in absurd (omega arith)
parse_line (b ∷ s) l rest e =
    let i = length_after_line (b ∷ s) l rest e in
    rw (e, parse_within_law (length (b ∷ s)) (suc (length rest)) rest i (omega arith))
