-- The heights of a forest's trees: of trees of one task, and after one top is hung under another; and the largest of them is the most links that a task has.
-- Assumes nothing.
use Prim.Native.Nat.{ℕ, suc, max, ◌+◌, ◌≤◌, ◌<◌}
use mathlib.Core.Path.{◌≡◌, sym, ◌∙◌}
use mathlib.Core.Logic.{◌≢◌}
use native.Mathlib.Omega.{arith}
use Rattle.trace.specs.Trace.{TASKS}
use Rattle.trace.specs.Search.{largest_below}
use Rattle.trace.specs.Joins.{Parents, alone, top_of, links_of, MAX_LINKS, hung}
use Rattle.trace.proofs.Tests.{either, same_or_not, lt_or_le}
use Rattle.trace.proofs.Chains.{none_not_some, largest_ge, largest_has}
use Rattle.forest.specs.Tables.{IsTop, Forest, Reached, Heights}
use Rattle.forest.proofs.Tops.{top_own, links_own, top_is_top, links_few}
use Rattle.forest.proofs.Hung.{hung_same, hung_other, moved_other, moved_longer}
use Rattle.forest.proofs.Same.{Same, top_same, links_same}
use Rattle.forest.proofs.Joins.{is_top_alone}

-- ---- before the first event

pub heights_alone : (height : ℕ → ℕ) → ((h : ℕ) → h < TASKS → height h ≡ 0) → Heights alone height
heights_alone height zeros =
    record {
      most = λ t l. omega (arith, links_own (is_top_alone t l));
      reached = λ h l.
          record { task = h; below = l; long = omega (arith, zeros h l); own = λ e. top_own (is_top_alone h l) };
    }

-- ---- another table with the same parents

pub heights_same : {parent next : Parents} {height : ℕ → ℕ} → Forest parent → Same parent next → Heights parent height → Heights next height
heights_same f s w =
    record {
      most = λ t l. rw (links_same f s t l, top_same f s t l) (w.most t l);
      reached = λ h l.
          let r = w.reached h l in
          record {
            task = r.task;
            below = r.below;
            long = omega (arith, r.long, links_same f s r.task r.below);
            own = λ e. top_same f s r.task r.below ∙ r.own (sym (s h l) ∙ e);
          };
    }

-- ---- one top hung under another

module _ {parent : Parents} (f : Forest parent) {x y : ℕ} (ix : IsTop parent x) (iy : IsTop parent y) (distinct : x ≢ y) where
  abbrev after : Parents
  after = hung x y parent

  -- No task has fewer links than before.
  reached_kept : (h k : ℕ) → Reached parent h k → Reached after h k
  reached_kept h k r =
      let t = r.task in
      record {
        task = t;
        below = r.below;
        long =
            either (same_or_not (top_of parent t) x) (λ e. omega (arith, r.long, (moved_longer f ix iy distinct t r.below e).links))
            (λ n. omega (arith, r.long, (moved_other f ix iy distinct t r.below n).links));
        own = λ none.
            let n : h ≢ x = λ e. none_not_some none (hung_same parent x y h e) in
            let top = r.own (sym (hung_other parent x y h n) ∙ none) in
            (moved_other f ix iy distinct t r.below (λ e. n (sym top ∙ e))).tops ∙ top;
      }

  -- Those of x have one link more, to y.
  reached_longer : (k : ℕ) → Reached parent x k → Reached after y (suc k)
  reached_longer k r =
      let longer = moved_longer f ix iy distinct r.task r.below (r.own ix.free) in
      record { task = r.task; below = r.below; long = omega (arith, r.long, longer.links); own = λ none. longer.tops }

  module _ {height next : ℕ → ℕ} (w : Heights parent height) (hung-y : next y ≡ max (height x + 1) (height y))
      (kept : (h : ℕ) → h < TASKS → h ≢ y → next h ≡ height h) where
    pub heights_hung : Heights after next
    heights_hung =
        record {
          most = most_hung;
          reached = λ h l.
              either (same_or_not h y) (λ e. rw (e, hung-y) reached_hung)
              (λ m. rw (kept h l m) (reached_kept h (height h) (w.reached h l)));
        }
      where
        most_hung : (t : ℕ) → t < TASKS → links_of after t ≤ next (top_of after t)
        most_hung t l =
            let was = w.most t l in
            let top = top_of parent t in
            either (same_or_not top x)
            (λ e.
            let longer = moved_longer f ix iy distinct t l e in
            let of-x : links_of parent t ≤ height x = rw e at was in
            rw (longer.tops, longer.links, hung-y) (omega arith))
            (λ n.
            let other = moved_other f ix iy distinct t l n in
            rw (other.tops, other.links)
            (either (same_or_not top y) (λ e. let of-y : links_of parent t ≤ height y = rw e at was in rw (e, hung-y) (omega arith))
            (λ m. rw (kept top (top_is_top f t l).below m) was)))

        reached_hung : Reached after y (max (height x + 1) (height y))
        reached_hung =
            either (lt_or_le (height x) (height y))
            (λ l.
            let e : max (height x + 1) (height y) ≡ height y = omega arith in
            rw e (reached_kept y (height y) (w.reached y iy.below)))
            (λ l.
            let e : max (height x + 1) (height y) ≡ suc (height x) = omega arith in
            rw e (reached_longer (height x) (w.reached x ix.below)))

-- ---- the largest of them

module _ {parent : Parents} (f : Forest parent) {height : ℕ → ℕ} (w : Heights parent height) where
  pub height_few : (h : ℕ) → h < TASKS → height h ≤ MAX_LINKS
  height_few h l = let r = w.reached h l in omega (arith, r.long, links_few f r.task r.below)

  pub largest_height : largest_below TASKS height ≡ largest_below TASKS (links_of parent)
  largest_height =
      let high = largest_has TASKS height (omega arith) in
      let r = w.reached high.0 high.1 in
      let far = largest_has TASKS (links_of parent) (omega arith) in
      let t = far.0 in
      omega (
        arith,
        high.2,
        r.long,
        largest_ge TASKS (links_of parent) r.task r.below,
        far.2,
        w.most t far.1,
        largest_ge TASKS height (top_of parent t) (top_is_top f t far.1).below,
      )
