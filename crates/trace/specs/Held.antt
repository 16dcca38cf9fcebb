-- A trace and an event as the code holds them. Assumes nothing.
use Rattle.std.specs.Prelude.{ℕ, ◌<◌, length, get_or}
use Rattle.trace.specs.Trace.{Event, Trace}
use Rattle.trace.specs.Lent.{lent_trace}
use Rattle.trace.specs.declared.Event as code
use Rattle.trace.specs.declared.Trace as slices

-- "Entry p of each makes event p."
abbrev pub held_trace : slices.Trace → Trace
held_trace held = lent_trace held.kinds held.tasks held.operands

abbrev pub held_event : code.Event → Event
held_event held = record { kind = held.kind; task = held.task; operand = held.operand }

-- Each slice has an entry p.
pub record HasEvent (held : slices.Trace) (p : ℕ) : Type 0 where
  pub kind : p < length held.kinds.now
  pub task : p < length held.tasks.now
  pub operand : p < length held.operands.now

abbrev pub event_at : slices.Trace → ℕ → code.Event
event_at held p = record { kind = get_or held.kinds.now p 0; task = get_or held.tasks.now p 0; operand = get_or held.operands.now p 0 }
