-- THE OUTPUT FITS: an output about a text's trace has at most OUTPUT-BYTES bytes (`length_output`), so a buffer of that size holds it whole. And the
-- rows of `render`. Assumes nothing.
use Prim.Native.Nat.{ℕ, suc, ◌+◌, ◌*◌, ◌≤◌, ◌<◌}
use native.Mathlib.Omega.{arith}
use mathlib.Core.Path.{◌≡◌, refl, ◌∙◌}
use mathlib.Core.Bool.{true}
use mathlib.Core.List.{List, [], ◌∷◌, ◌++◌}
use lib.ListN.{length, take, drop, set, length-append, length-take, length-set}
use lib.Seq.{sets, sets-eq}
use borrow.Author.Tests.{lt-ltb, le-ltb, le-leb, lt-leb, ltb-true}
use Rattle.std.specs.Prelude.{Result, Ok, Err}
use Rattle.trace.specs.Outcome.{Reply, says, refused, Verdict, clean, race}
use Rattle.trace.specs.Answers.{judge_reply}
use Rattle.trace.specs.declared.Verdict as code
use Rattle.trace.specs.declared.Verdict.TheVariants.{Clean, Race}
use Rattle.trace.specs.declared.Refusal.{Refusal}
use Rattle.form.specs.Decided.{MAX_TEXT_EVENTS}
use Rattle.output.specs.Output.{CLEAN, RACE, REFUSED, rest, order_line, order_lines, output, Buffer, buffer, add_byte, add, OUTPUT_BYTES}
use Rattle.output.specs.Output.{of_text, rendered}
use Rattle.numbers.proofs.Decimal.{length_decimal_le}

-- ---- the length of an output

length_rest : (ns : List ℕ) → length (rest ns) ≤ 21 * length ns + 1
length_rest [] = omega arith
length_rest (n ∷ ns) = let d = length_decimal_le n in let i = length_rest ns in simp length-append (omega arith)

length_order_line : (ns : List ℕ) → length (order_line ns) ≤ 21 * length ns + 1
length_order_line [] = omega arith
length_order_line (n ∷ ns) = let d = length_decimal_le n in let i = length_rest ns in simp length-append (omega arith)

length_order_lines : (t : ℕ) (first second : List ℕ) → length (order_lines t first second) ≤ 42 * (t + 1) + 2
unfolding order_lines
length_order_lines t first second =
    let m = length_order_line (take (t + 1) first) in
    let n = length_order_line (take (t + 1) second) in
    let k = length-take (t + 1) first in
    let l = length-take (t + 1) second in
    simp length-append (omega arith)

pub length_output : (reply : Reply Verdict) (count : ℕ) (first second : List ℕ) → of_text reply ≡ true
    → length (output reply count first second) ≤ OUTPUT_BYTES
unfolding output
length_output (says clean) count first second e = let r = length_rest (count ∷ []) in omega arith
length_output (says (race s t)) count first second e =
    let r = length_rest (s ∷ t ∷ []) in
    let h = ltb-true t MAX_TEXT_EVENTS e in
    let o = length_order_lines t first second in
    let a = length-append (RACE ++ rest (s ∷ t ∷ [])) (order_lines t first second) in
    omega arith
length_output (refused number position) count first second e = let r = length_rest (number ∷ position ∷ []) in omega arith

-- ---- bytes that fit

add_fits : (out : List ℕ) (used : ℕ) (s : List ℕ) → used + length s ≤ length out
    → add (buffer out used) s ≡ buffer (sets out used s) (used + length s)
unfolding add_byte
add_fits out used [] h = let e : used + 0 ≡ used = omega arith in rw e
add_fits out used (byte ∷ s) h =
    let l = length-set out used byte in
    let e : used + suc (length s) ≡ suc used + length s = omega arith in
    let f : used + 1 ≡ suc used = omega arith in
    rw (lt-ltb used (length out) (omega arith), e, f, add_fits (set out used byte) (suc used) s (omega arith))

add_whole : (out s : List ℕ) → length s ≤ length out → add (buffer out 0) s ≡ buffer (s ++ drop (length s) out) (length s)
add_whole out s h =
    let e : 0 + length s ≡ length s = omega arith in
    add_fits out 0 s (omega arith) ∙ rw (sets-eq s out 0 (omega arith), e)

-- ---- the rows of `render`

module _ (count : ℕ) (first second out : List ℕ) where
  rendered_whole : (reply : Reply Verdict) → OUTPUT_BYTES ≤ length out → of_text reply ≡ true
      → add (buffer out 0) (output reply count first second) ≡ rendered reply count first second out
  unfolding rendered
  rendered_whole reply h e =
      let l = length_output reply count first second e in
      add_whole out (output reply count first second) (omega arith) ∙ rw (le-leb OUTPUT_BYTES (length out) h, e)

  module _ (answer : Result code.Verdict Refusal) where
    pub render_short : length out < OUTPUT_BYTES → buffer out 0 ≡ rendered (judge_reply answer) count first second out
    unfolding rendered
    render_short h = rw (lt-leb OUTPUT_BYTES (length out) h)

    module _ (h : OUTPUT_BYTES ≤ length out) (b : Buffer) where
      pub render_clean : (v : code.Verdict) → answer ≡ Ok v → (links : ℕ) → v ≡ Clean links → b ≡ add (buffer out 0) (CLEAN ++ rest (count ∷ []))
          → b ≡ rendered (judge_reply answer) count first second out
      unfolding judge_reply output
      render_clean v e links i f = f ∙ rw (e, i) (rendered_whole (says clean) h refl)

      pub render_refused : (x : Refusal) → answer ≡ Err x → b ≡ add (buffer out 0) (REFUSED ++ rest (x.number ∷ x.position ∷ []))
          → b ≡ rendered (judge_reply answer) count first second out
      unfolding judge_reply output
      render_refused x e f = f ∙ rw e (rendered_whole (refused x.number x.position) h refl)

      pub render_race : (v : code.Verdict) → answer ≡ Ok v → (s t links : ℕ) → v ≡ Race s t links → t < MAX_TEXT_EVENTS
          → b ≡ add (buffer out 0) ((RACE ++ rest (s ∷ t ∷ [])) ++ order_lines t first second)
          → b ≡ rendered (judge_reply answer) count first second out
      unfolding judge_reply output
      render_race v e s t links i k f = f ∙ rw (e, i) (rendered_whole (says (race s t)) h (lt-ltb t MAX_TEXT_EVENTS k))

    pub render_past : OUTPUT_BYTES ≤ length out → (v : code.Verdict) → answer ≡ Ok v → (s t links : ℕ) → v ≡ Race s t links → MAX_TEXT_EVENTS ≤ t
        → buffer out 0 ≡ rendered (judge_reply answer) count first second out
    unfolding judge_reply rendered
    render_past h v e s t links i k = rw (e, i, le-leb OUTPUT_BYTES (length out) h, le-ltb t MAX_TEXT_EVENTS k)
