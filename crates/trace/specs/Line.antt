-- The line of tasks and the running task (document 01, "The line and the running task"; source document 000, section 5 and its Figure 9), and
-- the rows 5 to 12 that an event can meet (document 01, "Why a trace is turned back"). Assumes nothing.
use Rattle.std.specs.Prelude.{ℕ, zero, suc, Bool, true, false, cond, not, ◌&&◌, ◌||◌, eqb, leb}
use mathlib.Core.List.{List, [], ◌∷◌, tail}
use Rattle.trace.specs.Trace.{Trace, FORK, JOIN, is_kind, is_access, LOCATIONS, TASKS}

-- The rows of the table are asked one after the other: all pass, or the first whose condition holds refuses by its number.
pub data Checked (A : Type 0) : Type 0 where
  passes : A → Checked A
  fails : ℕ → Checked A

-- One row: its number, its condition, and what is asked where the condition does not hold.
unfoldable pub row : {A : Type 0} → ℕ → Bool → Checked A → Checked A
row number true next = fails number
row number false next = next

-- The state that the line rules speak of.
pub record Line : Type 0 where
  -- the line from left to right
  pub tasks : List ℕ
  -- the running task, its paused parent, that one's parent and so on to task 0; none once task 0 has halted
  pub active : List ℕ
  -- the numbers that have been used
  pub used : List ℕ

-- "At the start the line holds task 0 alone, and it runs."
unfoldable pub start : Line
start = record { tasks = 0 ∷ []; active = 0 ∷ []; used = 0 ∷ [] }

unfoldable pub is_empty : List ℕ → Bool
is_empty [] = true
is_empty (y ∷ l) = false

unfoldable pub is_head : ℕ → List ℕ → Bool
is_head x [] = false
is_head x (y ∷ l) = eqb y x

unfoldable pub is_member : ℕ → List ℕ → Bool
is_member a [] = false
is_member a (y ∷ l) = eqb a y || is_member a l

-- a stands immediately left of x.
unfoldable pub is_left_of : ℕ → ℕ → List ℕ → Bool
is_left_of a x [] = false
is_left_of a x (y ∷ l) = (eqb y a && is_head x l) || is_left_of a x l

-- The line with the child put immediately left of its parent.
unfoldable pub put_left_of : ℕ → ℕ → List ℕ → List ℕ
put_left_of child parent [] = []
put_left_of child parent (y ∷ l) = cond (eqb y parent) (child ∷ y ∷ l) (y ∷ put_left_of child parent l)

-- The line without the task a.
unfoldable pub remove : ℕ → List ℕ → List ℕ
remove a [] = []
remove a (y ∷ l) = cond (eqb y a) l (y ∷ remove a l)

-- "A fork puts the child immediately left of its parent. The parent pauses and the child runs."
unfoldable pub forked : ℕ → ℕ → Line → Line
forked x child line =
    record { tasks = put_left_of child x line.tasks; active = child ∷ line.active; used = child ∷ line.used }

-- "Join: the operand is the task immediately left of the actor. It leaves the line."
unfoldable pub joined : ℕ → Line → Line
joined a line = record { tasks = remove a line.tasks; active = line.active; used = line.used }

-- "Halt: the task stops and stays in the line. Its paused parent runs again."
unfoldable pub halted : Line → Line
halted line = record { tasks = line.tasks; active = tail line.active; used = line.used }

-- The task that resumes where the running one halts, of the tasks paused below it; for task 0, which has none, 0.
unfoldable pub resumed : List ℕ → ℕ
resumed [] = 0
resumed (parent ∷ paused) = parent

-- What a halt's operand must be (document 02, K6): "A halt's operand now names the task that resumes; for task 0's own halt it is 0."
unfoldable pub halt_operand : Line → ℕ
halt_operand line = resumed (tail line.active)

-- What it had to be before K6, document 01: "For halt it is 0."
unfoldable pub halt_operand_before : Line → ℕ
halt_operand_before line = 0

-- The rule for it is a parameter of all rules, so that both can be spoken of with the same words.
module _ (haltRule : Line → ℕ) where
  -- The one row for the event's kind (9 before 10).
  unfoldable pub step_by_kind : ℕ → ℕ → ℕ → Line → Checked Line
  step_by_kind kind x a line =
      cond (is_access kind)
      (row 8 (leb LOCATIONS a) (passes line))
      (cond (eqb kind FORK)
      (row 9 (leb TASKS a) (row 10 (is_member a line.used) (passes (forked x a line))))
      (cond (eqb kind JOIN)
      (row 11 (not (is_left_of a x line.tasks)) (passes (joined a line)))
      (row 12 (not (eqb a (haltRule line))) (passes (halted line)))))

  -- One event: rows 5, 6 and 7, then the one row for its kind.
  unfoldable pub step : Trace → ℕ → Line → Checked Line
  step tr p line =
      row 5 (not (is_kind (tr.kind p)))
      (row 6 (is_empty line.active)
      (row 7 (not (is_head (tr.task p) line.active))
      (step_by_kind (tr.kind p) (tr.task p) (tr.operand p) line)))

  unfoldable pub step_after : Trace → ℕ → Checked Line → Checked Line
  step_after tr p (passes line) = step tr p line
  step_after tr p (fails number) = fails number

  -- The line after the first n events, or the row that the first of them to break a rule meets.
  unfoldable pub line_after : Trace → ℕ → Checked Line
  line_after tr zero = passes start
  line_after tr (suc n) = step_after tr n (line_after tr n)
