-- The cells that hold a forest: cleared ones do, and after a union they hold the table with both trees made one; and the largest height is the most links
-- that a task has. Assumes nothing.
use Prim.Native.Nat.{ℕ, max, ◌+◌, ◌≤◌, ◌<◌}
use mathlib.Core.Path.{◌≡◌, refl, sym, ap, subst, ◌∙◌}
use mathlib.Core.List.{List}
use mathlib.Core.Logic.{◌≢◌}
use mathlib.Core.Option.{none}
use native.Mathlib.Omega.{arith}
use native.Mathlib.Numerals.{add-one}
use borrow.Author.Tests.{ltb-true, ltb-false}
use lib.Dec.{ltb}
use lib.ListN.{length, get_or}
use Rattle.trace.specs.Trace.{TASKS}
use Rattle.trace.specs.Search.{largest_below}
use Rattle.trace.specs.Joins.{Parents, alone, links_of, MAX_LINKS, tree_size, hung, united}
use Rattle.trace.proofs.Tests.{by_test, either, same_or_not, tests_unique, tests_map, test_lt}
use Rattle.trace.proofs.Chains.{none_not_some, largest_has}
use Rattle.cells.specs.Cells.{SameFrom}
use Rattle.forest.specs.Tables.{IsTop, Forest, Found}
use Rattle.forest.specs.Forest.{LINK, SIZE, HEIGHT, FOREST_CELLS, size, height, parent_of, parents, ForestIn, hung_in, smaller_in, united_in, Hangable, Unitable, Joinable, Joined}
use Rattle.forest.proofs.Tops.{chain_few}
use Rattle.forest.proofs.Hung.{hung_same, hung_other, sizes_fit, size_hung, size_other, forest_hung}
use Rattle.forest.proofs.Same.{Same, size_same, forest_same}
use Rattle.forest.proofs.Joins.{forest_alone, size_alone}
use Rattle.forest.proofs.HungCells.{hung_rest, same_hung, cell_hung, cell_other, height_hung, height_other}
use Rattle.forest.proofs.Heights.{heights_alone, heights_same, heights_hung, height_few, largest_height}

-- ---- cleared cells

module _ (c : List ℕ) (room : FOREST_CELLS ≤ length c) (zeros : (i : ℕ) → i < FOREST_CELLS → get_or c i 0 ≡ 0) where
  pub same_start : Same alone (parents c)
  unfolding parents alone
  same_start t l = ap parent_of (zeros (LINK + t) (omega arith))

  pub forest_start : ForestIn c
  forest_start =
      record {
        room = room;
        forest = forest_same forest_alone same_start;
        counted = λ h i.
            omega (arith, zeros (SIZE + h) (omega (arith, i.below)), size_same forest_alone same_start h, size_alone h i.below);
        heights = heights_same forest_alone same_start (heights_alone (height c) (λ h l. zeros (HEIGHT + h) (omega arith)));
      }

-- ---- one top hung under another

module _ {c : List ℕ} (f : ForestIn c) {x y : ℕ} (ix : IsTop (parents c) x) (iy : IsTop (parents c) y) (distinct : x ≢ y) where
  pub hangable : Hangable c x y
  hangable =
      record {
        room = f.room;
        below_x = ix.below;
        below_y = iy.below;
        fits = omega (arith, f.counted x ix, f.counted y iy, sizes_fit (parents c) distinct);
        low = height_few f.forest f.heights x ix.below;
      }

  -- Where y's tree is no smaller, the cells hold the forest with x hung under y.
  module _ (larger : tree_size (parents c) x ≤ tree_size (parents c) y) where
    abbrev after : Parents
    after = hung x y (parents c)

    abbrev same : Same after (parents (hung_in c x y))
    same = same_hung c x y f.room ix.below iy.below

    abbrev forest : Forest after
    forest = forest_hung f.forest ix iy distinct larger

    counted_hung : (h : ℕ) → IsTop (parents (hung_in c x y)) h → size (hung_in c x y) h ≡ tree_size after h
    counted_hung h i =
        let none : after h ≡ none = sym (same h i.below) ∙ i.free in
        let n : h ≢ x = λ e. none_not_some none (hung_same (parents c) x y h e) in
        either (same_or_not h y)
        (λ e.
        rw e (cell_hung c x y f.room ix.below iy.below
        ∙ omega (arith, f.counted x ix, f.counted y iy, size_hung f.forest ix iy distinct)))
        (λ m.
        let was : IsTop (parents c) h = record { below = i.below; free = sym (hung_other (parents c) x y h n) ∙ none } in
        cell_other c x y f.room ix.below iy.below h i.below m
        ∙ (f.counted h was ∙ sym (size_other f.forest ix iy distinct h n m)))

    pub forest_hung_in : ForestIn (hung_in c x y)
    forest_hung_in =
        record {
          room = rw (hung_rest c x y f.room ix.below iy.below).long f.room;
          forest = forest_same forest same;
          counted = λ h i. counted_hung h i ∙ sym (size_same forest same h);
          heights =
              heights_same forest same
              (heights_hung f.forest ix iy distinct f.heights (height_hung c x y f.room ix.below iy.below)
              (height_other c x y f.room ix.below iy.below));
        }

-- ---- the union of two trees

module _ {c : List ℕ} {a b : ℕ} (u : Unitable c a b) where
  abbrev table : Parents
  table = parents c

  -- The size cells tell the smaller tree.
  smaller_is : smaller_in c a b ≡ ltb (tree_size table a) (tree_size table b)
  unfolding smaller_in
  smaller_is =
      let sa = u.forest_in.counted a u.joiner in
      let sb = u.forest_in.counted b u.joined in
      let cell : ℕ → ℕ = λ h. get_or c (SIZE + h) 0 in
      tests_unique _ _ (test_lt (cell a) (cell b))
      (tests_map {P = tree_size table a < tree_size table b} {Q = cell a < cell b} (λ l. omega arith) (λ l. omega arith) (test_lt _ _))

  -- What the cells hold then: this table.
  pub record UnitedIn (next : Parents) (exit : List ℕ) : Type 0 where
    pub forest_in : ForestIn exit
    pub table_is : Same next (parents exit)
    pub rest : SameFrom FOREST_CELLS c exit

  pub united_in_law : UnitedIn (united a b table) (united_in c a b)
  unfolding united_in united
  united_in_law =
      let f = u.forest_in in
      let la = u.joiner.below in
      let lb = u.joined.below in
      let other : b ≢ a = λ e. u.distinct (sym e) in
      rw smaller_is
      (by_test (ltb (tree_size table a) (tree_size table b))
      (λ e. rw e (record {
        forest_in = forest_hung_in f u.joiner u.joined u.distinct (omega (arith, ltb-true));
        table_is = same_hung c a b f.room la lb;
        rest = hung_rest c a b f.room la lb;
      }))
      (λ e. rw e (record {
        forest_in = forest_hung_in f u.joined u.joiner other (omega (arith, ltb-false));
        table_is = same_hung c b a f.room lb la;
        rest = hung_rest c b a f.room lb la;
      })))

-- ---- a join

module _ {c : List ℕ} {x v a b j k : ℕ} (w : Joinable c x v) (joiner : Found (parents c) x a j) (joined : Found (parents c) v b k) where
  -- The two tops that were found are those of two trees.
  pub tops_unite : Unitable c a b
  tops_unite =
      record {
        forest_in = w.forest_in;
        joiner = joiner.is_top;
        joined = joined.is_top;
        distinct = λ e. w.apart (sym joiner.task ∙ (e ∙ joined.task));
      }

  pub tops_joined : {exit : List ℕ} → exit ≡ united_in c a b → Joined c x v exit
  tops_joined e =
      let u = subst (UnitedIn tops_unite (united a b (parents c))) (sym e) (united_in_law tops_unite) in
      record {
        forest_in = u.forest_in;
        table = λ t l. rw (sym joiner.task, sym joined.task) (u.table_is t l);
        few_before = λ t h k l r. chain_few w.forest_in.forest t l r;
        few = λ t h k l r. chain_few u.forest_in.forest t l r;
        rest = u.rest;
      }

-- ---- the largest height, of the first `task` tasks

pub most_none : (f : ℕ → ℕ) → 0 ≡ largest_below 0 f
unfolding largest_below
most_none f = refl

pub most_more : (f : ℕ → ℕ) (task : ℕ) {most here next : ℕ} → most ≡ largest_below task f → here ≡ f task → next ≡ max here most
    → next ≡ largest_below (task + 1) f
unfolding largest_below
most_more f task so h e = rw (add-one task) (rw (e, so, h))

pub most_all : {c : List ℕ} {most task : ℕ} → ForestIn c → task ≤ TASKS → TASKS ≤ task → most ≡ largest_below task (height c)
    → (most ≡ largest_below TASKS (links_of (parents c))) × (most ≤ MAX_LINKS)
most_all {c} {most} {task} f le ge so =
    let all : task ≡ TASKS = omega arith in
    let same : most ≡ largest_below TASKS (height c) = rw (← all) so in
    let high = largest_has TASKS (height c) (omega arith) in
    (same ∙ largest_height f.forest f.heights, omega (arith, high.2, height_few f.forest f.heights high.0 high.1))
