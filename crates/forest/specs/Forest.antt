-- The table of joins in the first three tables of a workspace, and what each function asks and leaves there. In every definition c is the workspace's cells.
-- Assumes nothing.
use Rattle.std.specs.Prelude.{ℕ, zero, suc, max, ◌+◌, ◌≤◌, ◌<◌, ◌≡◌, Bool, cond, List, ◌≢◌, ltb, length, get_or, set}
use Rattle.std.proofs.Math.Option.{Option, none, some}
use Rattle.trace.specs.Trace.{TASKS}
use Rattle.trace.specs.Joins.{Parents, Chain, top_of, MAX_LINKS, tree_size, united}
use Rattle.cells.specs.Cells.{SameFrom}
use Rattle.forest.specs.Tables.{IsTop, Forest, Heights}

-- ---- the three tables

-- The first cell of the links.
abbrev pub LINK : ℕ
LINK = 0

-- The first cell of the sizes.
abbrev pub SIZE : ℕ
SIZE = 1024

-- The first cell of the heights.
abbrev pub HEIGHT : ℕ
HEIGHT = 2048

-- The forest's cells are those below this one.
abbrev pub FOREST_CELLS : ℕ
FOREST_CELLS = 3072

-- The link of task t: 0 where t is a top, else its parent + 1.
abbrev pub link : List ℕ → ℕ → ℕ
link c t = get_or c (LINK + t) 0

-- The number of tasks of the tree whose top is t. Its cell holds one less.
abbrev pub size : List ℕ → ℕ → ℕ
size c t = get_or c (SIZE + t) 0 + 1

-- The most links that lead to the top t.
abbrev pub height : List ℕ → ℕ → ℕ
height c t = get_or c (HEIGHT + t) 0

-- The parent that a link names.
abbrev pub parent_of : ℕ → Option ℕ
parent_of zero = none
parent_of (suc p) = some p

-- The table that the cells hold.
unfoldable pub parents : List ℕ → Parents
parents c t = parent_of (link c t)

-- The cells hold a forest of the tasks.
pub record ForestIn (c : List ℕ) : Type 0 where
  -- the tables are there
  pub room : FOREST_CELLS ≤ length c
  -- the links are a forest
  pub forest : Forest (parents c)
  -- a top's size is the number of tasks whose top it is
  pub counted : (h : ℕ) → IsTop (parents c) h → size c h ≡ tree_size (parents c) h
  -- and its height the most links that lead to it
  pub heights : Heights (parents c) (height c)

-- ---- hanging one top under another

-- The cells with the top x hung under the top y, whose tree then has the tasks of both: one link more leads from those of x.
unfoldable pub hung_in : List ℕ → ℕ → ℕ → List ℕ
hung_in c x y =
    set (set (set c (LINK + x) (y + 1)) (SIZE + y) (get_or c (SIZE + x) 0 + get_or c (SIZE + y) 0 + 1)) (HEIGHT + y) (max (height c x + 1) (height c y))

-- What `hang` asks.
pub record Hangable (c : List ℕ) (x y : ℕ) : Type 0 where
  -- the tables are there
  pub room : FOREST_CELLS ≤ length c
  -- what is hung is a task's number
  pub below_x : x < TASKS
  -- and so is what it is hung under
  pub below_y : y < TASKS
  -- together their trees have no more tasks than there are
  pub fits : size c x + size c y ≤ TASKS
  -- and few links lead to what is hung
  pub low : height c x ≤ MAX_LINKS

-- ---- the union of two trees, a the joiner's top and b the joined task's

-- The joiner's tree is the smaller one.
unfoldable pub smaller_in : List ℕ → ℕ → ℕ → Bool
smaller_in c a b = ltb (get_or c (SIZE + a) 0) (get_or c (SIZE + b) 0)

-- The cells with the two trees made one.
unfoldable pub united_in : List ℕ → ℕ → ℕ → List ℕ
united_in c a b = cond (smaller_in c a b) (hung_in c a b) (hung_in c b a)

-- What `union` asks.
pub record Unitable (c : List ℕ) (a b : ℕ) : Type 0 where
  -- the cells hold a forest
  pub forest_in : ForestIn c
  -- a is a top, the joiner's
  pub joiner : IsTop (parents c) a
  -- b is a top, the joined task's
  pub joined : IsTop (parents c) b
  -- they are the tops of two trees
  pub distinct : a ≢ b

-- ---- a join

-- What `join` asks: two tasks of two trees.
pub record Joinable (c : List ℕ) (x v : ℕ) : Type 0 where
  pub forest_in : ForestIn c
  pub below_x : x < TASKS
  pub below_v : v < TASKS
  pub apart : top_of (parents c) x ≢ top_of (parents c) v

-- What it leaves where x joins v: the trees of both are one, as document 02 has it, every search follows at most 10 links, before and after, and no cell past
-- the tables has changed.
pub record Joined (c : List ℕ) (x v : ℕ) (exit : List ℕ) : Type 0 where
  pub forest_in : ForestIn exit
  pub table : (t : ℕ) → t < TASKS → parents exit t ≡ united (top_of (parents c) x) (top_of (parents c) v) (parents c) t
  pub few_before : (t h k : ℕ) → t < TASKS → Chain (parents c) t h k → k ≤ MAX_LINKS
  pub few : (t h k : ℕ) → t < TASKS → Chain (parents exit) t h k → k ≤ MAX_LINKS
  pub rest : SameFrom FOREST_CELLS c exit
