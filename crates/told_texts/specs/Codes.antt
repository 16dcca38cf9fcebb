-- What a C caller is told of a text or of a plan that is translated to a trace: a code and two values, and what the three slices then hold. Assumes nothing.
use Rattle.std.specs.Prelude.{ℕ, ◌≡◌, Bool, true, false, cond, ◌||◌, List, ltb, length}
use Rattle.std.proofs.Math.Seq.{paste}
use Rattle.trace.specs.Slices.{Slices, slices, Translated}
use Rattle.form.specs.Decided.{MAX_TEXT_EVENTS, DecidedBy}
use Rattle.form.specs.Translation.{translated}
use Rattle.told.specs.Codes.{Told, told, count_told, heard_count}

-- What a caller hears: the answer that a code and the values of a translation tell, with the three slices.
abbrev pub heard_trace : ℕ → List ℕ → Slices → Translated
heard_trace code values b = record { answer = heard_count code values; slices = b }

-- A call of a translation from C: what is told, and what the three slices then hold.
pub record TranslateCall : Type 0 where
  pub said : Told
  pub slices : Slices

-- The one that its outcome asks for.
unfoldable pub translation_call : Translated → TranslateCall
translation_call o = record { said = count_told o.answer; slices = o.slices }

-- Some slice has fewer cells than a text may make events.
unfoldable pub is_short : Slices → Bool
is_short b =
    ltb (length b.kinds) MAX_TEXT_EVENTS || (ltb (length b.tasks) MAX_TEXT_EVENTS || ltb (length b.operands) MAX_TEXT_EVENTS)

-- Then the code is 3, and the slices are as they were.
abbrev pub short_call : Slices → TranslateCall
short_call b = record { said = told 3 0 0; slices = b }

-- The one that a text and three slices of any length ask for.
unfoldable pub translate_call : List ℕ → Slices → TranslateCall
translate_call text b = cond (is_short b) (short_call b) (translation_call (translated text b))

abbrev pub translate_seen : ℕ → List ℕ → Slices → TranslateCall
translate_seen code values b = record { said = record { code = code; values = values }; slices = b }

-- ITS MEANING, by what lines print and not by the reader: some slice is short, and that is told; or none is, and what is told and left is what the text
-- decides (`Decided` of `form`).
pub data TranslateTells (text : List ℕ) (b : Slices) (call : TranslateCall) : Type 0 where
  short : is_short b ≡ true → call ≡ short_call b → TranslateTells text b call
  decides : is_short b ≡ false → (outcome : Translated) → DecidedBy text b outcome → call ≡ translation_call outcome → TranslateTells text b call

-- Slices whose first n cells are those of others. The translation goes to spare slices first.
abbrev pub copied : ℕ → Slices → Slices → Slices
copied n from to =
    slices (paste to.kinds 0 from.kinds n) (paste to.tasks 0 from.tasks n) (paste to.operands 0 from.operands n)
