-- Two tables that give each task the same parent are the same forest: tops, links and sizes. Assumes nothing.
use Prim.Native.Nat.{ℕ, ◌<◌}
use mathlib.Core.Path.{◌≡◌, sym, ap, ◌∙◌}
use native.Mathlib.Omega.{arith}
use lib.Dec.{eqb, ltb}
use Rattle.trace.specs.Trace.{TASKS}
use Rattle.trace.specs.Joins.{Parents, Chain, top, up, top_of, links_of, tree_size, hung, united}
use Rattle.trace.proofs.Tests.{by_test, either, same_or_not}
use Rattle.trace.proofs.Counts.{count_same}
use Rattle.trace.proofs.Chains.{chain_top, chain_links, chain_ends}
use Rattle.forest.specs.Tables.{Forest}
use Rattle.forest.proofs.Hung.{hung_same, hung_other}
use Rattle.forest.proofs.Tops.{links_few}

-- Each task has the same parent in both.
abbrev pub Same : Parents → Parents → Type 0
Same parent next = (t : ℕ) → t < TASKS → next t ≡ parent t

module _ {parent next : Parents} (f : Forest parent) (s : Same parent next) where
  chain_same_table : {t h k : ℕ} → Chain parent t h k → t < TASKS → Chain next t h k
  chain_same_table (top {t = t} e) l = top (s t l ∙ e)
  chain_same_table (up {t = t} {p = p} e r) l = up (s t l ∙ e) (chain_same_table r (f.inside t p l e))

  module _ (t : ℕ) (l : t < TASKS) where
    pub top_same : top_of next t ≡ top_of parent t
    top_same = chain_top (chain_same_table (f.ends t l) l) (omega (arith, links_few f t l))

    pub links_same : links_of next t ≡ links_of parent t
    links_same = chain_links (chain_same_table (f.ends t l) l) (omega (arith, links_few f t l))

  pub size_same : (h : ℕ) → tree_size next h ≡ tree_size parent h
  unfolding tree_size
  size_same h = count_same TASKS _ _ (λ t l. ap (λ (v : ℕ). eqb v h) (top_same t l))

  pub forest_same : Forest next
  forest_same =
      record {
        inside = λ t p l e. f.inside t p l (sym (s t l) ∙ e);
        ends = λ t l. chain_ends (chain_same_table (f.ends t l) l) (omega (arith, links_few f t l));
        doubled = λ t l. rw (links_same t l, top_same t l, size_same (top_of parent t)) (f.doubled t l);
      }

  hung_same_table : (x y : ℕ) → Same (hung x y parent) (hung x y next)
  hung_same_table x y t l =
      either (same_or_not t x) (λ e. hung_same next x y t e ∙ sym (hung_same parent x y t e))
      (λ n. hung_other next x y t n ∙ (s t l ∙ sym (hung_other parent x y t n)))

  -- So they stay where two trees are made one.
  pub united_same : (a b : ℕ) → Same (united a b parent) (united a b next)
  unfolding united
  united_same a b t l =
      rw (size_same a, size_same b)
      (by_test (ltb (tree_size parent a) (tree_size parent b)) (λ e. rw e (hung_same_table a b t l)) (λ e. rw e (hung_same_table b a t l)))
