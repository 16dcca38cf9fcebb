-- WHAT A PLAN'S TEXT DECIDES (document 02, K4): the answer to it and what the three lent slices then hold, by what plans print and the events that they make; and
-- WHAT THE TRACE IS LIKE that is written. Assumes nothing.
use Rattle.std.specs.Prelude.{ℕ, ◌+◌, ◌≤◌, ◌≡◌, List, ◌↔◌, ◌≢◌, length, take}
use Rattle.trace.specs.Trace.{Event, Trace, trace_of, TASKS, MAX_EVENTS}
use Rattle.trace.specs.Line.{halt_operand}
use Rattle.trace.specs.Graph.{Reach}
use Rattle.trace.specs.Outcome.{Reply, says, refused}
use Rattle.trace.specs.Demands.{KeepsRules}
use Rattle.trace.specs.Slices.{Slices, Room, Translated, leaving}
use Rattle.plan.specs.Plans.{Plan, LEVELS, IsPlan, StrayAt, DeepAt}
use Rattle.plan.specs.Events.{forks, events_of}
use Rattle.plan.specs.Leaves.{Leaf, kind_at, location_at, position, InSeries}

-- The limits of row 19: "a lent slice is too short or the plan needs over 1,024 tasks or over 32,768 events". Task 0 is one of them.
pub record Fits (p : Plan) (b : Slices) : Type 0 where
  pub tasks : 1 + forks p ≤ TASKS
  pub events : length (events_of p) ≤ MAX_EVENTS
  pub room : Room b (length (events_of p))

-- The events of a text, or its refusal: "of these two the first met. Then 19". "The position is the byte's; for 19 it is 0."
pub data Decided (text : List ℕ) (b : Slices) : Reply (List Event) → Type 0 where
  accepted : (p : Plan) → IsPlan LEVELS text p → Fits p b → Decided text b (says (events_of p))
  stray : (at : ℕ) → StrayAt text at → Decided text b (refused 17 at)
  deep : (at : ℕ) → DeepAt text at → Decided text b (refused 18 at)
  too_large : (p : Plan) → IsPlan LEVELS text p → (Fits p b → ⊥) → Decided text b (refused 19 0)

-- THE MEANING OF AN OUTCOME, at the text and the three slices as they were: "A refused plan leaves the slices unchanged, as are the cells past the trace."
pub record DecidedBy (text : List ℕ) (b : Slices) (outcome : Translated) : Type 0 where
  pub reply : Reply (List Event)
  pub decided : Decided text b reply
  pub left : outcome ≡ leaving b reply

-- ---- the trace

-- The first n entries of three slices.
abbrev pub trace_in : Slices → ℕ → Trace
trace_in b n = trace_of (take n b.kinds) (take n b.tasks) (take n b.operands)

-- Event i is the access of this leaf.
pub record IsLeaf (tr : Trace) (p : Plan) (x : Leaf p) (i : ℕ) : Type 0 where
  pub kind : tr.kind i ≡ kind_at p x
  pub location : tr.operand i ≡ location_at p x

-- A trace of n events is that of a plan.
pub record Traces (p : Plan) (tr : Trace) (n : ℕ) : Type 0 where
  -- It keeps the line rules,
  pub keeps_rules : KeepsRules halt_operand tr n
  -- has each leaf at its position,
  pub leaves : (x : Leaf p) → IsLeaf tr p x (position p x 0)
  -- and "Of two leaves, the first reaches the second exactly if the operator where they meet is S and the first is in its left operand."
  pub reach : (x y : Leaf p) → x ≢ y → Reach tr n (position p x 0) (position p y 0) ↔ InSeries p x y

-- Where a number of events is answered, the text is a plan's, and the first cells of the slices hold its trace.
abbrev pub TracesPlan : List ℕ → Translated → Type 0
TracesPlan text outcome =
    (n : ℕ) → outcome.answer ≡ says n → (p : Plan) × IsPlan LEVELS text p × Traces p (trace_in outcome.slices n) n
