-- What one event does to the line in the cells: the rows of document 01 over the two stacks. Assumes nothing.
use Rattle.std.specs.Prelude.{ℕ, ◌+◌, ◌-◌, ◌<◌, ◌≤◌, ◌≡◌, Bool, true, false, cond, not, List, eqb, leb, Result, Ok, Err}
use Rattle.trace.specs.Trace.{JOIN, HALT, LOCATIONS, TASKS, is_kind}
use Rattle.trace.specs.Line.{Checked, passes, fails}
use Rattle.trace.specs.Rows.{row_number}
use Rattle.trace.specs.declared.Row.{Row}
use Rattle.line.specs.declared.Line.{Line}
use Rattle.line.specs.Rules.{Rule, Access, Fork, Join, Halt, Unknown, rule_of}
use Rattle.line.specs.Cells.{depths, running_in, nearest_in, resumed_in, is_used_in, forked_in, halted_in}

-- The next line or the row met, and the cells.
pub record Stepped : Type 0 where
  pub result : Checked Line
  pub cells : List ℕ

abbrev pub goes : Line → List ℕ → Stepped
goes line c = record { result = passes line; cells = c }

-- What the answer about an event and the cells at exit say: where no row is met, the line goes on to `next`.
unfoldable pub rowed : Line → Result (Unit {0}) Row → List ℕ → Stepped
rowed next (Ok none) c = goes next c
rowed next (Err row) c = record { result = fails (row_number row); cells = c }

-- The line after an event that keeps this rule.
abbrev pub after_in : Line → Rule → Line
after_in line Access = line
after_in line Fork = depths (line.active + 1) line.left
after_in line Join = depths line.active (line.left - 1)
after_in line Halt = depths (line.active - 1) (line.left + 1)
after_in line Unknown = line

-- What `after` asks: there are few tasks, and there is one where the kind takes one away.
pub record Movable (line : Line) (kind : ℕ) : Type 0 where
  pub few_active : line.active ≤ TASKS
  pub few_left : line.left ≤ TASKS
  pub halts : kind ≡ HALT → 0 < line.active
  pub joins : kind ≡ JOIN → 0 < line.left

-- One row: a refusal leaves the cells.
unfoldable pub row_in : List ℕ → ℕ → Bool → Stepped → Stepped
row_in c number true next = record { result = fails number; cells = c }
row_in c number false next = next

-- Row 8 has no cell to look at.
unfoldable pub location_row : ℕ → Result (Unit {0}) Row
location_row a = cond (leb LOCATIONS a) (Err Row.UnknownLocation) (Ok tt)

module _ (c : List ℕ) (line : Line) where
  unfoldable pub location_in : ℕ → Stepped
  location_in a = row_in c 8 (leb LOCATIONS a) (goes (after_in line Access) c)

  unfoldable pub fork_in : ℕ → Stepped
  fork_in a = row_in c 9 (leb TASKS a) (row_in c 10 (is_used_in c a) (goes (after_in line Fork) (forked_in c line a)))

  unfoldable pub join_in : ℕ → Stepped
  join_in a = row_in c 11 (eqb line.left 0) (row_in c 11 (not (eqb (nearest_in c line) a)) (goes (after_in line Join) c))

  unfoldable pub halt_in : ℕ → Stepped
  halt_in a = row_in c 12 (not (eqb a (resumed_in c line))) (goes (after_in line Halt) (halted_in c line))

  -- The row for the event's kind.
  unfoldable pub act_in : Rule → ℕ → Stepped
  act_in Access a = location_in a
  act_in Fork a = fork_in a
  act_in Join a = join_in a
  act_in Halt a = halt_in a
  act_in Unknown a = record { result = fails 5; cells = c }

  -- An event of this task: rows 6 and 7, then the row for its kind.
  unfoldable pub task_in : Rule → ℕ → ℕ → Stepped
  task_in rule task a = row_in c 6 (eqb line.active 0) (row_in c 7 (not (eqb task (running_in c line))) (act_in rule a))

  -- One event: its kind, its task and its operand.
  unfoldable pub event_in : ℕ → ℕ → ℕ → Stepped
  event_in kind task a = row_in c 5 (not (is_kind kind)) (task_in (rule_of kind) task a)
