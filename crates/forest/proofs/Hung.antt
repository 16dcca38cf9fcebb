-- A forest after one top is hung under another: it stays a forest where the other's tree is no smaller, and the tops move as `merged` says. Assumes nothing.
use Prim.Native.Nat.{ℕ, suc, ◌+◌, ◌≤◌, ◌<◌, ◌^◌}
use mathlib.Core.Path.{◌≡◌, sym, ap, ◌∙◌}
use mathlib.Core.Option.{some}
use mathlib.Core.Logic.{◌≢◌, inl}
use native.Mathlib.Omega.{arith}
use native.Mathlib.Nat.{two-pow-succ}
use borrow.Author.Tests.{eq-eqb, ne_eqb}
use lib.Dec.{eqb}
use Rattle.trace.specs.Trace.{TASKS}
use Rattle.trace.specs.Search.{count_below}
use Rattle.trace.specs.Joins.{Parents, Chain, top, up, top_of, links_of, tree_size, hung}
use Rattle.trace.proofs.Tests.{either, same_or_not}
use Rattle.trace.proofs.Counts.{count_same, count_sum, count_le}
use Rattle.trace.proofs.Chains.{none_not_some, some_same, chain_top, chain_links, chain_ends}
use Rattle.forest.specs.Tables.{IsTop, Forest}
use Rattle.forest.proofs.Merged.{merged, merged_one, merged_kept, bits_merged, test_merged}
use Rattle.forest.proofs.Tops.{links_few}

-- ---- the table

module _ (parent : Parents) (x y : ℕ) where
  pub hung_same : (t : ℕ) → t ≡ x → hung x y parent t ≡ some y
  unfolding hung
  hung_same t e = rw (eq-eqb t x e)

  pub hung_other : (t : ℕ) → t ≢ x → hung x y parent t ≡ parent t
  unfolding hung
  hung_other t n = rw (ne_eqb t x n)

-- ---- two trees of one forest

module _ (parent : Parents) {x y : ℕ} (distinct : x ≢ y) where
  count_merged : count_below TASKS (λ (t : ℕ). eqb (merged x y y (top_of parent t)) y) ≡ tree_size parent x + tree_size parent y
  unfolding tree_size
  count_merged = count_sum TASKS _ _ _ (λ t l. bits_merged x y (top_of parent t) distinct)

  -- Two trees have at most 1,024 tasks together.
  pub sizes_fit : tree_size parent x + tree_size parent y ≤ TASKS
  sizes_fit = omega (arith, count_merged, count_le TASKS (λ t. eqb (merged x y y (top_of parent t)) y))

-- ---- a top hung under another

module _ {parent : Parents} (f : Forest parent) {x y : ℕ} (ix : IsTop parent x) (iy : IsTop parent y) (distinct : x ≢ y) where
  abbrev after : Parents
  after = hung x y parent

  -- A task with a parent keeps it.
  link_kept : (t p : ℕ) → parent t ≡ some p → after t ≡ some p
  link_kept t p e = hung_other parent x y t (λ q. none_not_some (rw q ix.free) e) ∙ e

  -- A chain to another top stays, and a chain to x goes on to y.
  chain_other : {t h k : ℕ} → Chain parent t h k → h ≢ x → Chain after t h k
  chain_other (top {t = t} e) n = top (hung_other parent x y t n ∙ e)
  chain_other (up {t = t} {p = p} e r) n = up (link_kept t p e) (chain_other r n)

  chain_longer : {t h k : ℕ} → Chain parent t h k → h ≡ x → Chain after t y (suc k)
  chain_longer (top {t = t} e) q =
      up (hung_same parent x y t q) (top (hung_other parent x y y (λ z. distinct (sym z)) ∙ iy.free))
  chain_longer (up {t = t} {p = p} e r) q = up (link_kept t p e) (chain_longer r q)

  -- Where a task's top and the links to it are then.
  pub record Moved (t h k : ℕ) : Type 0 where
    pub chain : Chain after t (top_of after t) (links_of after t)
    pub tops : top_of after t ≡ h
    pub links : links_of after t ≡ k

  moved : {t h k : ℕ} → Chain after t h k → k ≤ TASKS → Moved t h k
  moved r few = record { chain = chain_ends r few; tops = chain_top r few; links = chain_links r few }

  pub moved_other : (t : ℕ) → t < TASKS → top_of parent t ≢ x → Moved t (top_of parent t) (links_of parent t)
  moved_other t l n = moved (chain_other (f.ends t l) n) (omega (arith, links_few f t l))

  pub moved_longer : (t : ℕ) → t < TASKS → top_of parent t ≡ x → Moved t y (suc (links_of parent t))
  moved_longer t l e = moved (chain_longer (f.ends t l) e) (omega (arith, links_few f t l))

  pub top_hung : (t : ℕ) → t < TASKS → top_of after t ≡ merged x y y (top_of parent t)
  top_hung t l =
      either (same_or_not (top_of parent t) x) (λ e. (moved_longer t l e).tops ∙ sym (merged_one x y y (top_of parent t) (inl e)))
      (λ n. (moved_other t l n).tops ∙ sym (merged_kept x y (top_of parent t) n))

  -- y's tree has the tasks of both, and every other tree but x's stays.
  count_tops : (h : ℕ) → tree_size after h ≡ count_below TASKS (λ (t : ℕ). eqb (merged x y y (top_of parent t)) h)
  unfolding tree_size
  count_tops h = count_same TASKS _ _ (λ t l. ap (λ (v : ℕ). eqb v h) (top_hung t l))

  pub size_hung : tree_size after y ≡ tree_size parent x + tree_size parent y
  size_hung = count_tops y ∙ count_merged parent distinct

  pub size_other : (h : ℕ) → h ≢ x → h ≢ y → tree_size after h ≡ tree_size parent h
  unfolding tree_size
  size_other h n m = count_tops h ∙ count_same TASKS _ _ (λ t l. test_merged x y h (top_of parent t) n m)

  size_grows : (h : ℕ) → h ≢ x → tree_size parent h ≤ tree_size after h
  size_grows h n =
      either (same_or_not h y) (λ e. rw (e, size_hung) (omega arith)) (λ m. omega (arith, size_other h n m))

  -- The chains that grow lead to the smaller tree's top: its size is at least doubled.
  module _ (larger : tree_size parent x ≤ tree_size parent y) where
    doubled_hung : (t : ℕ) → t < TASKS → 2 ^ links_of after t ≤ tree_size after (top_of after t)
    doubled_hung t l =
        either (same_or_not (top_of parent t) x)
        (λ e.
        let m = moved_longer t l e in
        let d : 2 ^ links_of parent t ≤ tree_size parent x = rw e at (f.doubled t l) in
        rw (m.tops, m.links, size_hung, two-pow-succ) (omega arith))
        (λ n.
        let m = moved_other t l n in
        rw (m.tops, m.links) (omega (arith, f.doubled t l, size_grows (top_of parent t) n)))

    pub forest_hung : Forest after
    forest_hung =
        record {
          inside = λ t p l e.
              either (same_or_not t x) (λ q. omega (arith, some_same e (hung_same parent x y t q), iy.below))
              (λ n. f.inside t p l (sym (hung_other parent x y t n) ∙ e));
          ends = λ t l.
              either (same_or_not (top_of parent t) x) (λ e. (moved_longer t l e).chain) (λ n. (moved_other t l n).chain);
          doubled = doubled_hung;
        }
