-- The cells after one top is hung under another. Assumes nothing.
use Prim.Native.Nat.{ℕ, suc, max, ◌+◌, ◌≤◌, ◌<◌}
use mathlib.Core.Path.{◌≡◌, sym, ap, ◌∙◌}
use mathlib.Core.List.{List}
use mathlib.Core.Logic.{◌≢◌}
use native.Mathlib.Omega.{arith}
use native.Mathlib.Numerals.{add-one}
use lib.ListN.{length, get_or, set, length-set}
use lib.Seq.{get_or-set_same, get_or-set_other}
use Rattle.trace.specs.Trace.{TASKS}
use Rattle.trace.specs.Joins.{hung}
use Rattle.trace.proofs.Tests.{either, same_or_not}
use Rattle.cells.specs.Cells.{SameFrom}
use Rattle.forest.specs.Forest.{LINK, SIZE, HEIGHT, FOREST_CELLS, link, size, height, parent_of, parents, hung_in}
use Rattle.forest.proofs.Hung.{hung_same, hung_other}
use Rattle.forest.proofs.Same.{Same}

module _ (c : List ℕ) (x y : ℕ) (room : FOREST_CELLS ≤ length c) (lx : x < TASKS) (ly : y < TASKS) where
  pub hung_rest : SameFrom FOREST_CELLS c (hung_in c x y)
  unfolding hung_in
  hung_rest =
      record {
        long = simp length-set;
        same = λ i l.
            let d : i ≢ HEIGHT + y = omega arith in
            let e : i ≢ SIZE + y = omega arith in
            let g : i ≢ LINK + x = omega arith in
            simp get_or-set_other;
      }

  -- x has the parent y, and every other link stays.
  pub link_hung : link (hung_in c x y) x ≡ suc y
  unfolding hung_in
  link_hung =
      let d : LINK + x ≢ HEIGHT + y = omega arith in
      let e : LINK + x ≢ SIZE + y = omega arith in
      let l : LINK + x < length c = omega arith in
      simp (get_or-set_other, get_or-set_same, add-one)

  pub link_other : (t : ℕ) → t < TASKS → t ≢ x → link (hung_in c x y) t ≡ link c t
  unfolding hung_in
  link_other t l n =
      let d : LINK + t ≢ HEIGHT + y = omega arith in
      let e : LINK + t ≢ SIZE + y = omega arith in
      let g : LINK + t ≢ LINK + x = omega arith in
      simp get_or-set_other

  pub same_hung : Same (hung x y (parents c)) (parents (hung_in c x y))
  unfolding parents
  same_hung t l =
      either (same_or_not t x) (λ e. rw e (ap parent_of link_hung) ∙ sym (hung_same (parents c) x y t e))
      (λ n. ap parent_of (link_other t l n) ∙ sym (hung_other (parents c) x y t n))

  -- y's tree has the tasks of both, and every other size stays.
  pub cell_hung : size (hung_in c x y) y ≡ size c x + size c y
  unfolding hung_in
  cell_hung =
      let d : SIZE + y ≢ HEIGHT + y = omega arith in
      let l : SIZE + y < length (set c (LINK + x) (y + 1)) = rw length-set (omega arith) in
      simp (get_or-set_other, get_or-set_same) (omega arith)

  pub cell_other : (t : ℕ) → t < TASKS → t ≢ y → size (hung_in c x y) t ≡ size c t
  unfolding hung_in
  cell_other t l n =
      let d : SIZE + t ≢ HEIGHT + y = omega arith in
      let e : SIZE + t ≢ SIZE + y = omega arith in
      let g : SIZE + t ≢ LINK + x = omega arith in
      simp get_or-set_other

  -- One link more leads to y from x's tree, and every other height stays.
  pub height_hung : height (hung_in c x y) y ≡ max (height c x + 1) (height c y)
  unfolding hung_in
  height_hung =
      let l : HEIGHT + y < length (set (set c (LINK + x) (y + 1)) (SIZE + y) (get_or c (SIZE + x) 0 + get_or c (SIZE + y) 0 + 1)) =
      rw (length-set, length-set) (omega arith) in
      simp get_or-set_same

  pub height_other : (t : ℕ) → t < TASKS → t ≢ y → height (hung_in c x y) t ≡ height c t
  unfolding hung_in
  height_other t l n =
      let d : HEIGHT + t ≢ HEIGHT + y = omega arith in
      let e : HEIGHT + t ≢ SIZE + y = omega arith in
      let g : HEIGHT + t ≢ LINK + x = omega arith in
      simp get_or-set_other
