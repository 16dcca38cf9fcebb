-- What `translate` tells and leaves is what the text and the lent slices ask for: where a slice is short (`told_short`), where the text is
-- refused (`refused_kept`, `told_refusal`), and where its events are copied from the spare slices (`copied_translated`, `told_events`). Assumes nothing.
use Prim.Native.Nat.{ℕ, ◌<◌, ◌≤◌}
use native.Mathlib.Nat.{zero-add}
use native.Mathlib.Omega.{arith}
use mathlib.Core.Path.{◌≡◌, refl, sym, ap, ◌∙◌}
use Rattle.std.specs.Prelude.{Result, Ok, Err}
use Rattle.trace.specs.declared.Refusal.{Refusal}
use Rattle.trace.specs.Answers.{reply, translated_of}
use mathlib.Core.Bool.{Bool, true, false, ◌||◌, true≢false}
use mathlib.Core.Logic.{inl, inr}
use mathlib.Core.List.{List, [], ◌∷◌, ◌++◌, map}
use lib.Dec.{ltb}
use lib.ListN.{length, take, drop}
use lib.Seq.{paste}
use Rattle.trace.specs.Trace.{Event}
use Rattle.trace.specs.Outcome.{refused}
use Rattle.trace.specs.Slices.{Slices, slices, store_all, Room}
use Rattle.trace.proofs.Slices.{After, slices_hold}
use Rattle.trace.proofs.Tests.{by_test, Tests, tests_fails, test_lt, test_or}
use Rattle.form.specs.Decided.{MAX_TEXT_EVENTS}
use Rattle.form.specs.Translation.{translation, translated}
use Rattle.form.proofs.Accepted.{translation_at_most}
use Rattle.form.proofs.TextForm.{translated_decided, decided_by_unique}
use Rattle.text.proofs.Stored.{Stored}
use Rattle.told.specs.Codes.{Tells, TellsCount, count_told}
use Rattle.told_texts.proofs.Seen.{seen_translation}
use Rattle.told_texts.specs.Codes.{translation_call, is_short, translate_call, translate_seen, TranslateCall, TranslateTells, short, decides}
use Rattle.told_texts.specs.Codes.{copied}

-- The call, and what it means.
pub with_meaning : (text : List ℕ) (b : Slices) {call : TranslateCall} → call ≡ translate_call text b
    → (call ≡ translate_call text b) × TranslateTells text b call
unfolding translate_call
with_meaning text b {call} e =
    (e, by_test (is_short b) (λ s. short s (e ∙ rw s)) (λ s. decides s (translated text b) (translated_decided text b) (e ∙ rw s)))

-- A text and three slices decide one call and no other.
pub translate_tells_unique : {text : List ℕ} {b : Slices} {one two : TranslateCall} → TranslateTells text b one → TranslateTells text b two → one ≡ two
translate_tells_unique (short s e) (short s' e') = e ∙ sym e'
translate_tells_unique (short s e) (decides s' o d e') = absurd (true≢false (sym s ∙ s'))
translate_tells_unique (decides s o d e) (short s' e') = absurd (true≢false (sym s' ∙ s))
translate_tells_unique (decides s o d e) (decides s' o' d' e') = e ∙ (ap translation_call (decided_by_unique d d') ∙ sym e')

module _ (text : List ℕ) (b : Slices) where
  pub told_short : is_short b ≡ true → translate_seen 3 (0 ∷ 0 ∷ []) b ≡ translate_call text b
  unfolding translate_call
  told_short s = rw s

  pub told_answer : is_short b ≡ false → {code : ℕ} {values : List ℕ} (answer : Result ℕ Refusal) {after : Slices}
      → translated_of answer after ≡ translated text b → Tells 2 TellsCount answer code values → translate_seen code values after ≡ translate_call text b
  unfolding translate_call
  told_answer s answer e told = rw s (seen_translation answer e told)

  pub refused_kept : (r : Refusal) → translation text ≡ refused r.number r.position → translated_of (Err r) b ≡ translated text b
  unfolding reply translated
  refused_kept r e = rw e refl

  pub told_refusal : is_short b ≡ false → (number position : ℕ) → translation text ≡ refused number position
      → translate_seen 2 (number ∷ position ∷ []) b ≡ translate_call text b
  unfolding translate_call translation_call count_told translated
  told_refusal s number position e = rw (s, e)

-- ---- lengths

-- What `is_short` says of the lengths.
pub lengths_short : (kinds tasks operands : List ℕ) {r : Bool}
    → r ≡ ltb (length kinds) MAX_TEXT_EVENTS || (ltb (length tasks) MAX_TEXT_EVENTS || ltb (length operands) MAX_TEXT_EVENTS)
    → is_short (slices kinds tasks operands) ≡ r
unfolding is_short
lengths_short kinds tasks operands e = sym e

not_short : (b : Slices) → is_short b ≡ false → Room b MAX_TEXT_EVENTS
unfolding is_short
not_short b s =
    let few : (cells : List ℕ) → Tests (ltb (length cells) MAX_TEXT_EVENTS) (length cells < MAX_TEXT_EVENTS) = λ cells. test_lt _ _ in
    let none = tests_fails _ (test_or _ _ (few b.kinds) (test_or _ _ (few b.tasks) (few b.operands))) s in
    let kinds : length b.kinds < MAX_TEXT_EVENTS → ⊥ = λ h. none (inl h) in
    let tasks : length b.tasks < MAX_TEXT_EVENTS → ⊥ = λ h. none (inr (inl h)) in
    let operands : length b.operands < MAX_TEXT_EVENTS → ⊥ = λ h. none (inr (inr h)) in
    record { kinds = omega arith; tasks = omega arith; operands = omega arith }

pub count_fits : {text kinds tasks operands : List ℕ} {count : ℕ} → Stored text kinds tasks operands count → count ≤ MAX_TEXT_EVENTS
count_fits {text} h =
    let n = translation_at_most text h.events h.accepted in
    let m = h.counted in
    omega arith

pub lent_room : (b : Slices) → is_short b ≡ false → {text kinds tasks operands : List ℕ} {count : ℕ} → Stored text kinds tasks operands count → Room b count
lent_room b s h =
    let room = not_short b s in
    let n = count_fits h in
    record { kinds = omega arith; tasks = omega arith; operands = omega arith }

-- ---- the copy

-- A part of the events, copied to one slice.
module _ (part : Event → ℕ) (es : List Event) (from to : List ℕ) (count : ℕ) (counted : count ≡ length es) (holds : take count from ≡ map part es) where
  part_copied : paste to 0 from count ≡ map part es ++ drop (length es) to
  part_copied = rw (holds, zero-add, ← counted)

all_copied : (b : Slices) (es : List Event) (kinds tasks operands : List ℕ) (count : ℕ) → count ≡ length es
    → take count kinds ≡ map (λ e. e.kind) es → take count tasks ≡ map (λ e. e.task) es → take count operands ≡ map (λ e. e.operand) es
    → After b es (store_all b 0 es) → copied count (slices kinds tasks operands) b ≡ store_all b 0 es
all_copied b es kinds tasks operands count n k t o after =
    let kinds-same = part_copied (λ e. e.kind) es kinds b.kinds count n k ∙ sym after.kinds in
    let tasks-same = part_copied (λ e. e.task) es tasks b.tasks count n t ∙ sym after.tasks in
    let operands_same = part_copied (λ e. e.operand) es operands b.operands count n o ∙ sym after.operands in
    rw (kinds-same, tasks-same, operands_same)

pub copied_translated :
    (text : List ℕ) (b : Slices) → is_short b ≡ false → {kinds tasks operands : List ℕ} {count : ℕ} (h : Stored text kinds tasks operands count)
    → {after : Slices} → after ≡ copied count (slices kinds tasks operands) b → translated_of (Ok count) after ≡ translated text b
unfolding reply translated
copied_translated text b s {kinds} {tasks} {operands} {count} h e =
    let fits : Room b (length h.events) = rw (← h.counted) (lent_room b s h) in
    let same =
    all_copied b h.events kinds tasks operands count h.counted h.kinds_are h.tasks_are h.operands_are (slices_hold b h.events fits) in
    rw (h.accepted, e ∙ same, h.counted)

pub told_events : (text : List ℕ) (b : Slices) → is_short b ≡ false → {kinds tasks operands : List ℕ} {count : ℕ} (h : Stored text kinds tasks operands count)
    → (after : Slices) → after ≡ copied count (slices kinds tasks operands) b
    → translate_seen 0 (count ∷ 0 ∷ []) after ≡ translate_call text b
unfolding translate_call translation_call count_told translated
told_events text b s {kinds} {tasks} {operands} {count} h after e =
    let fits : Room b (length h.events) = rw (← h.counted) (lent_room b s h) in
    let same =
    all_copied b h.events kinds tasks operands count h.counted h.kinds_are h.tasks_are h.operands_are (slices_hold b h.events fits) in
    rw (s, h.accepted, e ∙ same, h.counted)
