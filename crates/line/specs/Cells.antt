-- The line's tables in the cells of a workspace, and what the functions leave in them. In every definition c is the workspace's cells. Assumes nothing.
use Rattle.std.specs.Prelude.{ℕ, ◌+◌, ◌-◌, Bool, not, cond, List, eqb, ltb, get_or, set}
use Rattle.cells.specs.Cells.{zeroed}
use Rattle.line.specs.declared.Line.{Line}

-- ---- the tables, each of 1,024 cells

-- Not 0 where the task's number has been used: the one table that is read before it is written.
abbrev pub USED : ℕ
USED = 0

abbrev pub USED_CELLS : ℕ
USED_CELLS = 1024

-- The tasks left of the running one, the nearest last.
abbrev pub LEFT : ℕ
LEFT = 7168

-- The active tasks, the running one last.
abbrev pub ACTIVE : ℕ
ACTIVE = 8192

-- ---- what the cells say

abbrev pub depths : ℕ → ℕ → Line
depths active left = record { active = active; left = left }

-- The running task, and its left neighbour.
abbrev pub running_in : List ℕ → Line → ℕ
running_in c line = get_or c (ACTIVE + line.active - 1) 0

abbrev pub nearest_in : List ℕ → Line → ℕ
nearest_in c line = get_or c (LEFT + line.left - 1) 0

-- The task that resumes where the running one halts: the one below it, if there is one, else 0.
unfoldable pub resumed_in : List ℕ → Line → ℕ
resumed_in c line = cond (ltb line.active 2) 0 (get_or c (ACTIVE + line.active - 2) 0)

-- The task's number has been used.
unfoldable pub is_used_in : List ℕ → ℕ → Bool
is_used_in c t = not (eqb (get_or c (USED + t) 0) 0)

-- ---- what the moves leave; a join stores nothing

-- What is stored in USED for a task that is forked.
abbrev pub NOW_USED : ℕ
NOW_USED = 1

-- Task 0 alone, used, and running.
unfoldable pub started_in : List ℕ → List ℕ
started_in c = set (set (zeroed USED_CELLS c) (USED + 0) 1) (ACTIVE + 0) 0

-- The child is used, and on top of the active tasks.
unfoldable pub forked_in : List ℕ → Line → ℕ → List ℕ
forked_in c line child = set (set c (ACTIVE + line.active) child) (USED + child) NOW_USED

-- The running task is now left of the one that resumes.
unfoldable pub halted_in : List ℕ → Line → List ℕ
halted_in c line = set c (LEFT + line.left) (running_in c line)
