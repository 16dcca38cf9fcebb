-- LONG TEXTS: the first 53,274 bytes of a text decide, 2,049 lines of at most 26 bytes. So a program with a buffer of that size is right on input of
-- any length. Assumes nothing.
use Prim.Native.Nat.{ℕ, zero, suc, ◌+◌, ◌-◌, ◌*◌, ◌≤◌, ◌<◌}
use native.Mathlib.Omega.{arith}
use mathlib.Core.Path.{◌≡◌, refl, sym, ap, ◌∙◌}
use mathlib.Core.List.{List, [], ◌∷◌, ◌++◌, append_assoc}
use mathlib.Core.Option.{none, some}
use lib.Dec.{ltb}
use lib.ListN.{length, take, drop, take-append-drop}
use lib.Seq.{take-append-add}
use borrow.Author.Tests.{ltb-false}
use Rattle.trace.specs.Slices.{Slices}
use Rattle.trace.proofs.Tests.{by_test}
use Rattle.form.specs.Form.{print}
use Rattle.form.specs.Reading.{line, parse}
use Rattle.form.specs.Events.{events_of, stack_after}
use Rattle.form.specs.Decided.{MAX_TEXT_EVENTS}
use Rattle.form.specs.Translation.{events_from, FIRST_LINE, translation, translated}
use Rattle.form.specs.declared.Line.{Line}
use Rattle.numbers.proofs.Tokens.{by_token}
use Rattle.form.proofs.Lines.{line_print, line_printed, length_print}
use Rattle.form.proofs.Parsing.{length_after_line, parse_none, parse_line}
use Rattle.form.proofs.EventCounts.{length_events}

line_take_none : (m : ℕ) (s : List ℕ) → line s ≡ none → line (take m s) ≡ none
line_take_none m s e =
    by_token (line (take m s)) (λ f. f)
    (λ l f. let p = line_printed (take m s) l.0 l.1 f in
    let q : s ≡ print l.0 ++ (l.1 ++ drop m s) = sym (take-append-drop m s) ∙ rw (p.bytes, append_assoc) in
    let r : line s ≡ some (l.0, l.1 ++ drop m s) = ap line q ∙ line_print l.0 (l.1 ++ drop m s) p.in_range in
    let z : ◌≡◌ {A = ℕ} 0 1 = cc in
    absurd (omega arith))

line_take : (m : ℕ) (s : List ℕ) (l : Line) (rest : List ℕ) → line s ≡ some (l, rest) → 26 ≤ m
    → line (take m s) ≡ some (l, take (m - length (print l)) rest)
line_take m s l rest e h =
    let p = line_printed s l rest e in
    let b = length_print l p.in_range in
    let k : m ≡ length (print l) + (m - length (print l)) = omega arith in
    let q : take m s ≡ print l ++ take (m - length (print l)) rest
    = ap (λ (z : List ℕ). take m z) p.bytes
    ∙ (ap (λ (n : ℕ). take n (print l ++ rest)) k ∙ take-append-add (print l) rest (m - length (print l))) in
    rw q (line_print l (take (m - length (print l)) rest) p.in_range)

-- Each line makes an event, so the lines that fit, and one more, decide.
events_take : (bytes m number count : ℕ) (stack s : List ℕ) → length s < bytes → count ≤ MAX_TEXT_EVENTS → 26 * (MAX_TEXT_EVENTS + 1 - count) ≤ m
    → events_from number count stack (parse s) ≡ events_from number count stack (parse (take m s))
events_take zero m number count stack s h k g = absurd (omega arith)
events_take (suc bytes) zero number count stack s h k g = absurd (omega arith)
events_take (suc bytes) (suc m) number count stack [] h k g = refl
events_take (suc bytes) (suc m) number count stack (b ∷ s) h k g =
    by_token (line (b ∷ s))
    (λ e. let left : (t : List ℕ) → b ∷ t ≡ [] → ⊥ = λ t f. let z : ◌≡◌ {A = ℕ} 0 1 = cc in omega arith in
    rw (
      parse_none (b ∷ s) (left s) e,
      parse_none (b ∷ take m s) (left (take m s)) (line_take_none (suc m) (b ∷ s) e),
    ))
    (λ l e. let p = length_print l.0 (line_printed (b ∷ s) l.0 l.1 e).in_range in
    let i = length_after_line (b ∷ s) l.0 l.1 e in
    let v = length_events stack l.0 in
    let shorter = suc m - length (print l.0) in
    rw (
      parse_line (b ∷ s) l.0 l.1 e,
      parse_line (b ∷ take m s) l.0 (take shorter l.1) (line_take (suc m) (b ∷ s) l.0 l.1 e (omega arith)),
    )
    (by_test (ltb MAX_TEXT_EVENTS (count + length (events_of stack l.0))) (λ f. rw f)
    (λ f. let u = ltb-false MAX_TEXT_EVENTS (count + length (events_of stack l.0)) f in
    rw (
      f,
      events_take bytes shorter (suc number) (count + length (events_of stack l.0)) (stack_after stack l.0) l.1 (omega arith) u (omega arith),
    ))))

-- 2,049 lines of 26 bytes.
abbrev pub TEXT_BYTES : ℕ
TEXT_BYTES = 53274

pub translation_take : (text : List ℕ) → translation text ≡ translation (take TEXT_BYTES text)
unfolding translation
translation_take text = events_take (suc (length text)) TEXT_BYTES FIRST_LINE 0 (0 ∷ []) text (omega arith) (omega arith) (omega arith)

-- The answer and the three slices, too.
pub translated_take : (text : List ℕ) (b : Slices) → translated text b ≡ translated (take TEXT_BYTES text) b
unfolding translated
translated_take text b = rw (← translation_take text)
