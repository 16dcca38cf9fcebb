-- From a plan's text to a trace by the reader: the outcome that `translate` gives. `Decided` says what is right; the theorems of `proofs/Deciding.antt` say that
-- this is exactly that. Assumes nothing.
use Rattle.std.specs.Prelude.{ℕ, ◌+◌, Bool, true, false, ◌||◌, List, ltb, length}
use Rattle.trace.specs.Trace.{Event, TASKS, MAX_EVENTS}
use Rattle.trace.specs.Outcome.{Reply, says, refused}
use Rattle.trace.specs.Slices.{Slices, Translated, leaving}
use Rattle.plan.specs.Plans.{Plan}
use Rattle.plan.specs.Events.{forks, events_of}
use Rattle.plan.specs.Leaves.{events}
use Rattle.plan.specs.Reading.{Whole, accepted, rejected, whole}

-- Row 19, of the numbers of events and of forks, and of the lengths of the slices.
unfoldable pub is_too_large : ℕ → ℕ → ℕ → ℕ → ℕ → Bool
is_too_large events forks kinds tasks operands =
    ltb TASKS (1 + forks) || (ltb MAX_EVENTS events || (ltb kinds events || (ltb tasks events || ltb operands events)))

abbrev pub fitted : Bool → Plan → Reply (List Event)
fitted true p = refused 19 0
fitted false p = says (events_of p)

-- The events of a text, or its refusal.
abbrev pub replied : Whole → Slices → Reply (List Event)
replied (accepted p) b =
    fitted (is_too_large (events p) (forks p) (length b.kinds) (length b.tasks) (length b.operands)) p
replied (rejected number position) b = refused number position

-- THE OUTCOME, at the text and the three slices as they were.
unfoldable pub planned : List ℕ → Slices → Translated
planned text b = leaving b (replied (whole text) b)
