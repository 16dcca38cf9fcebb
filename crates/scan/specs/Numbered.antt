-- Races by numbers: what `first_race` asks of the cells that it is lent, and what it finds. Assumes nothing.
use Rattle.std.specs.Prelude.{ℕ, ◌<◌, ◌≤◌, ◌≡◌, true, List, length, get_or}
use Rattle.trace.specs.Trace.{is_access, LOCATIONS}
use Rattle.trace.specs.Race.{conflicting}
use Rattle.ranks.specs.States.{Leading, SegmentsIn}

-- The segments of the first `events` events have their numbers; the events before `from` are accesses before any move, so that theirs is 0.
pub record Numbered (kinds operands c : List ℕ) (from events : ℕ) : Type 0 where
  pub of_operands : events ≤ length operands
  pub segments_in : SegmentsIn kinds events c
  pub locations : (p : ℕ) → p < events → is_access (get_or kinds p 0) ≡ true → get_or operands p 0 < LOCATIONS
  pub within : from ≤ events
  pub leading : Leading kinds from

-- Event p is an access of location l that conflicts with an access of kind k.
pub record Against (kinds operands : List ℕ) (k l p : ℕ) : Type 0 where
  pub access : is_access (get_or kinds p 0) ≡ true
  pub one_location : get_or operands p 0 ≡ l
  pub conflicting_kinds : conflicting (get_or kinds p 0) k ≡ true

-- Access t conflicts with the earlier access p and has the smaller number.
pub record RaceByNumber (kinds operands : List ℕ) (number : ℕ → ℕ) (p t : ℕ) : Type 0 where
  pub before : p < t
  pub access : is_access (get_or kinds t 0) ≡ true
  pub against : Against kinds operands (get_or kinds t 0) (get_or operands t 0) p
  pub smaller : number t < number p

-- Event r is the first such t, or there is none and r is the number of events.
pub record FirstRace (kinds operands : List ℕ) (number : ℕ → ℕ) (events r : ℕ) : Type 0 where
  pub within : r ≤ events
  pub none_before : (p t : ℕ) → t < r → RaceByNumber kinds operands number p t → ⊥
  pub race : r < events → (p : ℕ) × RaceByNumber kinds operands number p r
