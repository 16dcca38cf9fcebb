-- Text to trace by the reader: the events of a text, or its refusal, line by line; and the outcome that `translate` gives. `Decided` says what is right; the
-- theorems of `proofs/TextForm.antt` say that the translation gives exactly that. Assumes nothing.
use Rattle.std.specs.Prelude.{ℕ, suc, ◌+◌, cond, List, [], ◌∷◌, ◌++◌, ltb, length}
use Rattle.trace.specs.Trace.{Event}
use Rattle.trace.specs.Slices.{Slices, Translated, leaving}
use Rattle.trace.specs.Outcome.{Reply, says, refused}
use Rattle.trace.specs.declared.Refusal.{Refusal}
use Rattle.form.specs.Events.{events_of, stack_after}
use Rattle.form.specs.Decided.{MAX_TEXT_EVENTS}
use Rattle.form.specs.Reading.{Parsed, ends, malformed, line_then, parse}

-- Row 14 at a line: "a line isn't of the text form".
abbrev pub malformed_at : ℕ → Refusal
malformed_at number = record { number = 14; position = number }

-- Row 15 at a line: "text makes over 2,048 events".
abbrev pub too_many_at : ℕ → Refusal
too_many_at number = record { number = 15; position = number }

-- A refusal as a reply: refused number position.
abbrev pub refusal : {A : Type 0} → Refusal → Reply A
refusal r = refused r.number r.position

abbrev pub prepend : List Event → Reply (List Event) → Reply (List Event)
prepend es (says more) = says (es ++ more)
prepend es (refused number position) = refused number position

-- The events from a line on, where `number` lines and `count` events came before it and left this stack. A line must be whole before it makes events:
-- "the first of 14 and 15 decides, and its position is the line's number from 0". "No halt is added at the end."
abbrev pub events_from : ℕ → ℕ → List ℕ → Parsed → Reply (List Event)
events_from number count stack ends = says []
events_from number count stack malformed = refusal (malformed_at number)
events_from number count stack (line_then l rest) =
    cond (ltb MAX_TEXT_EVENTS (count + length (events_of stack l)))
    (refusal (too_many_at number))
    (prepend (events_of stack l) (events_from (suc number) (count + length (events_of stack l)) (stack_after stack l) rest))

-- "the line's number from 0"
abbrev pub FIRST_LINE : ℕ
FIRST_LINE = 0

-- THE TRANSLATION of a text: its events, or the refusal. "task 0 at the bottom"
unfoldable pub translation : List ℕ → Reply (List Event)
translation text = events_from FIRST_LINE 0 (0 ∷ []) (parse text)

-- THE OUTCOME of the translation, at the text and the three slices as they were.
unfoldable pub translated : List ℕ → Slices → Translated
translated text b = leaving b (translation text)
