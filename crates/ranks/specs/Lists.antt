-- The second order of the segments in the cells of a workspace: a linked list from segment 0 on, and the two stacks of segments. What each function leaves.
-- In every definition c is the workspace's cells. Assumes nothing.
use Rattle.std.specs.Prelude.{ℕ, ◌+◌, ◌-◌, ◌<◌, ◌≤◌, ◌≡◌, cond, List, ◌∷◌, eqb, ltb, length, get_or, set}
use Rattle.trace.specs.Trace.{FORK, JOIN, HALT, TASKS, WORKSPACE_CELLS}
use Rattle.trace.specs.Orders.{occurrences}
use Rattle.segments.proofs.SegmentCells.{Chain, link_at, link_in}
use Rattle.line.specs.declared.Line.{Line}

-- ---- the tables

-- The segments that ended in the fork of a paused task, and those that ended in the halt of a task that is not joined yet; the latest last. One table each.
abbrev pub FORKS : ℕ
FORKS = 4096

abbrev pub HALTS : ℕ
HALTS = 5120

-- For each segment the next one in the second order, 0 at the end; then its place. Three tables.
abbrev pub NEXT : ℕ
NEXT = 9216

-- One more than there can be.
abbrev pub SEGMENTS : ℕ
SEGMENTS = 3072

-- ---- a move

-- The segment that the next one is put after, where g is the open one.
unfoldable pub source_in : List ℕ → Line → ℕ → ℕ → ℕ
source_in c line kind g =
    cond (eqb kind JOIN) (get_or c (HALTS + line.left - 1) 0)
    (cond (eqb kind HALT) (cond (ltb 1 line.active) (get_or c (FORKS + line.active - 2) 0) g) g)

-- The open segment is on the stack of a fork or a halt.
unfoldable pub pushed_in : List ℕ → Line → ℕ → ℕ → List ℕ
pushed_in c line kind g =
    cond (eqb kind FORK) (set c (FORKS + line.active - 1) g) (cond (eqb kind HALT) (set c (HALTS + line.left) g) c)

-- The next segment is open.
unfoldable pub opened_in : List ℕ → Line → ℕ → ℕ → List ℕ
opened_in c line kind g = link_in NEXT (source_in c line kind g) (g + 1) (pushed_in c line kind g)

-- The segment of an event, where g is open: a join belongs to the one that it opens.
unfoldable pub own_in : ℕ → ℕ → ℕ
own_in kind g = cond (eqb kind JOIN) (g + 1) g

-- What the stacks ask: the tables are there, few tasks, and a task runs; there is one to join.
pub record Readable (c : List ℕ) (line : Line) (kind : ℕ) : Type 0 where
  pub room : WORKSPACE_CELLS ≤ length c
  pub some_active : 0 < line.active
  pub few_active : line.active ≤ TASKS
  pub few_left : line.left ≤ TASKS
  pub joins : kind ≡ JOIN → 0 < line.left

-- And what is asked to open the next segment: a cell for it, and for the one that it is put after.
pub record Openable (c : List ℕ) (line : Line) (kind g : ℕ) : Type 0 where
  pub readable : Readable c line kind
  pub few : g + 1 < SEGMENTS
  pub source_few : source_in c line kind g < SEGMENTS

-- ---- the walk

-- The cells hold a list of segments, 0 first.
pub record Listed (c : List ℕ) : Type 0 where
  pub room : WORKSPACE_CELLS ≤ length c
  pub rest : List ℕ
  pub few : length rest < SEGMENTS
  pub once : (q : ℕ) → occurrences q (0 ∷ rest) ≤ 1
  pub no_zero : occurrences 0 rest ≡ 0
  pub inside : (q : ℕ) → 0 < occurrences q rest → q < SEGMENTS
  pub chain : Chain (link_at NEXT c) (get_or c (NEXT + 0) 0) rest
