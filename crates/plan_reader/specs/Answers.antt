-- What each answer of the code says. The promises go through these. Assumes nothing.
use Rattle.std.specs.Prelude.{ℕ, ◌+◌, List, drop, Result, Ok, Err}
use Rattle.std.proofs.Math.Option.{Option, none, some}
use Rattle.trace.specs.declared.Refusal.{Refusal}
use Rattle.plan.specs.Events.{forks}
use Rattle.plan.specs.Leaves.{events}
use Rattle.plan.specs.Reading.{Opened, stops, lone, inside, Reading, read, refused, Whole, accepted, rejected}
use Rattle.plan_reader.specs.declared.reading.Opening.{Opening}
use Rattle.plan_reader.specs.declared.reading.Opening.TheVariants.{Leaf, Inside}
use Rattle.plan_reader.specs.declared.reading.Size.{Size}
use Rattle.plan_reader.specs.declared.reading.Span.{Span}

-- The bytes after the one at `at`, unless that is missing.
abbrev pub after_byte : List ℕ → ℕ → Result Unit Refusal → Option (List ℕ)
after_byte text at (Ok there) = some (drop (at + 1) text)
after_byte text at (Err r) = none

abbrev pub opened_of : List ℕ → ℕ → Result Opening Refusal → Opened
opened_of text at (Ok (Leaf k n)) = lone k n.value n.end (drop n.end text)
opened_of text at (Ok (Inside o)) = inside o (drop (at + 2) text)
opened_of text at (Err r) = stops r.number r.position

-- A plan's end, events and forks, and the bytes after it.
pub data Measured : Type 0 where
  counted : ℕ → ℕ → ℕ → List ℕ → Measured
  stopped : ℕ → ℕ → Measured

abbrev pub measured : Reading → Measured
measured (read p at s) = counted at (events p) (forks p) s
measured (refused number at) = stopped number at

abbrev pub scanned_of : List ℕ → Result Span Refusal → Measured
scanned_of text (Ok s) = counted s.end s.size.events s.size.forks (drop s.end text)
scanned_of text (Err r) = stopped r.number r.position

pub data Counted : Type 0 where
  plan : ℕ → ℕ → Counted
  no_plan : ℕ → ℕ → Counted

abbrev pub measured_whole : Whole → Counted
measured_whole (accepted p) = plan (events p) (forks p)
measured_whole (rejected number at) = no_plan number at

abbrev pub measure_of : Result Size Refusal → Counted
measure_of (Ok s) = plan s.events s.forks
measure_of (Err r) = no_plan r.number r.position
