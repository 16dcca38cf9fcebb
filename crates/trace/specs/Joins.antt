-- The table of joins (document 02, K2), as a function of the events alone, and how long its chains of links are. Assumes nothing.
use Rattle.std.specs.Prelude.{ℕ, zero, suc, ◌≡◌, cond, eqb, ltb}
use Rattle.std.proofs.Math.Option.{Option, none, some}
use Rattle.trace.specs.Trace.{Trace, JOIN, TASKS}
use Rattle.trace.specs.Search.{count_below, largest_below}

-- A table: the parent of each task that has one. A task with none is the top of its tree.
abbrev pub Parents : Type 0
Parents = ℕ → Option ℕ

-- "each task starts as a tree of one."
unfoldable pub alone : Parents
alone t = none

-- "the links between the task and the top": k links lead from the task t to the top h.
pub data Chain (parent : Parents) : ℕ → ℕ → ℕ → Type 0 where
  top : {t : ℕ} → parent t ≡ none → Chain parent t t 0
  up : {t p h k : ℕ} → parent t ≡ some p → Chain parent p h k → Chain parent t h (suc k)

-- ---- the same, computed

-- `stay` where there is no parent, else `go` from the parent.
abbrev pub by_parent : ℕ → (ℕ → ℕ) → Option ℕ → ℕ
by_parent stay go none = stay
by_parent stay go (some p) = go p

-- The task that at most n links lead to, and how many links are followed.
unfoldable pub top_within : ℕ → Parents → ℕ → ℕ
top_within zero parent t = t
top_within (suc n) parent t = by_parent t (λ (p : ℕ). top_within n parent p) (parent t)

unfoldable pub links_within : ℕ → Parents → ℕ → ℕ
links_within zero parent t = 0
links_within (suc n) parent t = by_parent 0 (λ (p : ℕ). suc (links_within n parent p)) (parent t)

-- The top of the tree that the task t is in, and the number of links between the two. While the rules are kept the table is a forest, and no chain of it has as
-- many links as there are tasks (`FewLinks`); elsewhere nobody asks.
unfoldable pub top_of : Parents → ℕ → ℕ
top_of parent t = top_within TASKS parent t

unfoldable pub links_of : Parents → ℕ → ℕ
links_of parent t = links_within TASKS parent t

-- "never above 10"
abbrev pub MAX_LINKS : ℕ
MAX_LINKS = 10

-- ---- the joins

-- "by number of tasks": how many tasks have the top h.
unfoldable pub tree_size : Parents → ℕ → ℕ
tree_size parent h = count_below TASKS (λ (t : ℕ). eqb (top_of parent t) h)

-- The top x hung under the top y. "No link changes otherwise."
unfoldable pub hung : ℕ → ℕ → Parents → Parents
hung x y parent t = cond (eqb t x) (some y) (parent t)

-- "A join hangs the top of the smaller tree, by number of tasks, under the top of the larger; at equal size the joiner's top stays on top." The joiner's
-- top is a, the joined task's is b.
unfoldable pub united : ℕ → ℕ → Parents → Parents
united a b parent = cond (ltb (tree_size parent a) (tree_size parent b)) (hung a b parent) (hung b a parent)

module _ (tr : Trace) where
  -- The table after event n, from the one before it.
  unfoldable pub joined_by : ℕ → Parents → Parents
  joined_by n parent =
      cond (eqb (tr.kind n) JOIN) (united (top_of parent (tr.task n)) (top_of parent (tr.operand n)) parent) parent

  -- The table after the first n events.
  unfoldable pub joins_after : ℕ → Parents
  joins_after zero = alone
  joins_after (suc n) = joined_by n (joins_after n)

  -- "the largest such number that any task has" after the first n events.
  unfoldable pub longest_after : ℕ → ℕ
  longest_after n = largest_below TASKS (links_of (joins_after n))
