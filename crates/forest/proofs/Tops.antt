-- Laws of the tops of a forest: a top is its own top, and at most 10 links lead to it, since each doubles the tasks. Assumes nothing.
use Prim.Native.Nat.{ℕ, suc, ◌≤◌, ◌<◌}
use mathlib.Core.Path.{◌≡◌, sym, ap, ◌∙◌}
use mathlib.Core.Option.{some}
use native.Mathlib.Omega.{arith}
use lib.Dec.{eqb}
use Rattle.trace.specs.Trace.{TASKS}
use Rattle.trace.specs.Joins.{Parents, Chain, top, up, top_of, links_of, MAX_LINKS, tree_size}
use Rattle.trace.proofs.Counts.{count_le}
use Rattle.trace.proofs.Chains.{chain_top, chain_links, chain_rest, chain_same}
use Rattle.forest.specs.Tables.{IsTop, Forest}
use Rattle.forest.proofs.Exponents.{exponent_few}

-- A top is its own top, no link away.
module _ {parent : Parents} {h : ℕ} (i : IsTop parent h) where
  pub top_own : top_of parent h ≡ h
  top_own = chain_top (top i.free) (omega arith)

  pub links_own : links_of parent h ≡ 0
  links_own = chain_links (top i.free) (omega arith)

-- A chain from a task ends in a task that is a top.
chain_is_top : {parent : Parents} {t h k : ℕ} → Forest parent → Chain parent t h k → t < TASKS → IsTop parent h
chain_is_top f (top e) l = record { below = l; free = e }
chain_is_top f (up {t = t} {p = p} e r) l = chain_is_top f r (f.inside t p l e)

-- No tree has more tasks than there are.
pub tree_few : (parent : Parents) (h : ℕ) → tree_size parent h ≤ TASKS
unfolding tree_size
tree_few parent h = count_le TASKS (λ t. eqb (top_of parent t) h)

module _ {parent : Parents} (f : Forest parent) (t : ℕ) (below : t < TASKS) where
  -- The top of a task is a task below 1,024 with no parent.
  pub top_is_top : IsTop parent (top_of parent t)
  top_is_top = chain_is_top f (f.ends t below) below

  pub links_few : links_of parent t ≤ MAX_LINKS
  links_few = exponent_few (links_of parent t) (omega (arith, f.doubled t below, tree_few parent (top_of parent t)))

  -- "never above 10", of every chain from a task.
  pub chain_few : {h k : ℕ} → Chain parent t h k → k ≤ MAX_LINKS
  chain_few r = omega (arith, chain_same r (f.ends t below), links_few)

  -- The parent of a task has the same top, one link less away.
  pub top_parent : {p : ℕ} → parent t ≡ some p → top_of parent p ≡ top_of parent t
  top_parent e =
      let rest = chain_rest (f.ends t below) e in
      chain_top rest.2 (omega (arith, rest.1, links_few))

  pub links_parent : {p : ℕ} → parent t ≡ some p → links_of parent t ≡ suc (links_of parent p)
  links_parent e =
      let rest = chain_rest (f.ends t below) e in
      rest.1 ∙ ap suc (sym (chain_links rest.2 (omega (arith, rest.1, links_few))))
