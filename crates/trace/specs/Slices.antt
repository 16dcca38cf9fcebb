-- The three lent slices that a trace is written to: "kinds (u8), tasks (u16) and operands (u16). Entry p of each makes event p" (document 01, "A trace"), and
-- what a call that writes one answers and leaves in them. Assumes nothing.
use Rattle.std.specs.Prelude.{ℕ, ◌+◌, ◌≤◌, List, [], ◌∷◌, length, set}
use Rattle.trace.specs.Trace.{Event}
use Rattle.trace.specs.Outcome.{Reply, says, refused}

pub record Slices : Type 0 where
  pub kinds : List ℕ
  pub tasks : List ℕ
  pub operands : List ℕ

abbrev pub slices : List ℕ → List ℕ → List ℕ → Slices
slices kinds tasks operands = record { kinds = kinds; tasks = tasks; operands = operands }

-- An event at position p.
unfoldable pub store : Slices → ℕ → Event → Slices
store b p e =
    record {
      kinds = set b.kinds p e.kind;
      tasks = set b.tasks p e.task;
      operands = set b.operands p e.operand;
    }

-- Events from position p on, and no other cell.
abbrev pub store_all : Slices → ℕ → List Event → Slices
store_all b p [] = b
store_all b p (e ∷ es) = store_all (store b p e) (p + 1) es

-- Each slice has n cells at least.
pub record Room (b : Slices) (n : ℕ) : Type 0 where
  pub kinds : n ≤ length b.kinds
  pub tasks : n ≤ length b.tasks
  pub operands : n ≤ length b.operands

-- What such a call answers, and what it leaves in the three slices.
pub record Translated : Type 0 where
  pub answer : Reply ℕ
  pub slices : Slices

-- "what writes a trace so gives its number of events" (document 02, K4): that number, with the events in the slices from their start on; or the refusal, with
-- the slices as they were.
abbrev pub leaving : Slices → Reply (List Event) → Translated
leaving b (says es) = record { answer = says (length es); slices = store_all b 0 es }
leaving b (refused number position) = record { answer = refused number position; slices = b }
