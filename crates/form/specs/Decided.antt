-- WHAT A TEXT DECIDES (document 01, "The text form" and rows 14 and 15): the answer to it, and what the three lent slices then hold, by what lines print
-- and the events that they make. "Text is translated whole before it is judged; the first of 14 and 15 decides, and its position is the line's number
-- from 0." Assumes nothing.
use Rattle.std.specs.Prelude.{ℕ, ◌≤◌, ◌<◌, ◌≡◌, List, [], ◌∷◌, ◌++◌, length}
use Rattle.trace.specs.Trace.{Event}
use Rattle.trace.specs.Slices.{Slices, Translated, leaving}
use Rattle.trace.specs.Outcome.{Reply, says, refused}
use Rattle.form.specs.Form.{print, InRange, LinesBefore, OfForm, BeginsWithNoLine}
use Rattle.form.specs.Events.{events_of_text}
use Rattle.form.specs.declared.Line.{Line}

-- "text makes over 2,048 events"
abbrev pub MAX_TEXT_EVENTS : ℕ
MAX_TEXT_EVENTS = 2048

-- These lines make at most 2,048 events.
abbrev pub Fit : List Line → Type 0
Fit lines = length (events_of_text lines) ≤ MAX_TEXT_EVENTS

-- The events of a text, or its refusal. The position of a refusal is the number of the lines before its line.
pub data Decided (text : List ℕ) : Reply (List Event) → Type 0 where
  -- The text is of the form, and its lines fit: their events.
  accepted : (all : OfForm text) → Fit all.lines → Decided text (says (events_of_text all.lines))
  -- Row 14, "a line isn't of the text form": the lines before it are, and fit.
  not_of_form : (rest : List ℕ) (before : LinesBefore text rest) → Fit before.lines → BeginsWithNoLine rest
      → Decided text (refused 14 (length before.lines))
  -- Row 15, "text makes over 2,048 events": the lines before this one fit, and with it they make more.
  too_many : (l : Line) (rest : List ℕ) (before : LinesBefore text (print l ++ rest)) → Fit before.lines → InRange l
      → MAX_TEXT_EVENTS < length (events_of_text (before.lines ++ (l ∷ [])))
      → Decided text (refused 15 (length before.lines))

-- ---- the lent slices

-- THE MEANING OF AN OUTCOME, at the text and the three slices as they were.
pub record DecidedBy (text : List ℕ) (b : Slices) (outcome : Translated) : Type 0 where
  pub reply : Reply (List Event)
  pub decided : Decided text reply
  pub left : outcome ≡ leaving b reply
