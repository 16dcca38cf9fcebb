-- The search for a top, link by link: what holds before each turn of the loop of `find`. Assumes nothing.
use Prim.Native.Nat.{ℕ, ◌+◌, ◌≤◌, ◌<◌}
use mathlib.Core.Path.{◌≡◌, sym, subst₂, ◌∙◌}
use mathlib.Core.List.{List}
use mathlib.Core.Option.{none, some}
use native.Mathlib.Omega.{arith}
use Rattle.trace.specs.Trace.{TASKS}
use Rattle.trace.specs.Joins.{Chain, MAX_LINKS, top_of, links_of}
use Rattle.forest.specs.Tables.{IsTop, Forest, Found}
use Rattle.forest.specs.Forest.{parents}
use Rattle.forest.proofs.Tops.{top_own, links_own, links_few, top_parent, links_parent}

-- The search for the top of `task` has followed `links` links and stands at the task `at`.
pub record Climbing (c : List ℕ) (task at links : ℕ) : Type 0 where
  -- it began at a task
  pub inside : task < TASKS
  -- it stands at a task
  pub below : at < TASKS
  -- in the tree of the first one
  pub tops : top_of (parents c) at ≡ top_of (parents c) task
  -- the links behind it and those ahead are all there are
  pub total : links + links_of (parents c) at ≡ links_of (parents c) task

module _ {c : List ℕ} (f : Forest (parents c)) {task at links : ℕ} (w : Climbing c task at links) where
  pub links_small : links ≤ MAX_LINKS
  links_small = omega (arith, w.total, links_few f task w.inside)

  module _ {p : ℕ} (parent : parents c at ≡ some p) where
    pub links_less : links_of (parents c) p < links_of (parents c) at
    links_less = omega (arith, links_parent f at w.below parent)

    pub climb_on : Climbing c task p (links + 1)
    climb_on =
        record {
          inside = w.inside;
          below = f.inside at p w.below parent;
          tops = top_parent f at w.below parent ∙ w.tops;
          total = omega (arith, links_parent f at w.below parent, w.total);
        }

  pub climbed : parents c at ≡ none → Found (parents c) task at links
  climbed free =
      let i : IsTop (parents c) at = record { below = w.below; free = free } in
      let h : top_of (parents c) task ≡ at = sym w.tops ∙ top_own i in
      let k : links_of (parents c) task ≡ links = omega (arith, links_own i, w.total) in
      record {
        chain = subst₂ (λ (x y : ℕ). Chain (parents c) task x y) h k (f.ends task w.inside);
        few = links_small;
        task = sym h;
        links = sym k;
        is_top = i;
      }
