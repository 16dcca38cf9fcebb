-- Tables of joins that are forests, and the heights of their trees, with no cells in sight; and what the search for a top answers. Assumes nothing.
use Rattle.std.specs.Prelude.{ℕ, ◌≤◌, ◌<◌, ◌^◌, ◌≡◌}
use Rattle.std.proofs.Math.Option.{none, some}
use Rattle.trace.specs.Trace.{TASKS}
use Rattle.trace.specs.Joins.{Parents, Chain, top_of, links_of, MAX_LINKS, tree_size}

-- The task h is a top.
pub record IsTop (parent : Parents) (h : ℕ) : Type 0 where
  -- it is a task's number
  pub below : h < TASKS
  -- it has no parent
  pub free : parent h ≡ none

-- The table is a forest of the tasks.
pub record Forest (parent : Parents) : Type 0 where
  -- a parent is a task
  pub inside : (t p : ℕ) → t < TASKS → parent t ≡ some p → p < TASKS
  -- from each task the links lead to its top
  pub ends : (t : ℕ) → t < TASKS → Chain parent t (top_of parent t) (links_of parent t)
  -- each link on the way to a top doubles the number of tasks, at least
  pub doubled : (t : ℕ) → t < TASKS → 2 ^ links_of parent t ≤ tree_size parent (top_of parent t)

-- Some task has at least k links; where h is a top, one of h's tree.
pub record Reached (parent : Parents) (h k : ℕ) : Type 0 where
  pub task : ℕ
  pub below : task < TASKS
  pub long : k ≤ links_of parent task
  pub own : parent h ≡ none → top_of parent task ≡ h

-- The heights of the trees: the most links that lead to a top. A task that is no top any more keeps the height that it had.
pub record Heights (parent : Parents) (height : ℕ → ℕ) : Type 0 where
  -- no task has more links than its top's height
  pub most : (t : ℕ) → t < TASKS → links_of parent t ≤ height (top_of parent t)
  -- and some task has as many, in a top's own tree
  pub reached : (h : ℕ) → h < TASKS → Reached parent h (height h)

-- What `find` answers for the task t: its top h, and the number k of links between.
pub record Found (parent : Parents) (t h k : ℕ) : Type 0 where
  -- "That number equals the links between the task and the top in the table as it then was,"
  pub chain : Chain parent t h k
  -- "and is never above 10."
  pub few : k ≤ MAX_LINKS
  -- both, as they are computed
  pub task : h ≡ top_of parent t
  pub links : k ≡ links_of parent t
  -- the top is a task's number and has no parent
  pub is_top : IsTop parent h
