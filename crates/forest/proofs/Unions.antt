-- A forest after a join: it stays a forest, and exactly the two trees become one. Assumes nothing.
use Prim.Native.Nat.{ℕ, ◌≤◌, ◌<◌}
use mathlib.Core.Path.{◌≡◌, refl, sym, ◌∙◌}
use mathlib.Core.Logic.{◌≢◌, ◌⊎◌, inl, inr, ◌↔◌}
use native.Mathlib.Omega.{arith}
use borrow.Author.Tests.{ltb-true, ltb-false}
use lib.Dec.{ltb}
use Rattle.trace.specs.Trace.{TASKS}
use Rattle.trace.specs.Joins.{Parents, top_of, tree_size, hung, united}
use Rattle.trace.proofs.Tests.{by_test}
use Rattle.forest.specs.Tables.{IsTop, Forest}
use Rattle.forest.proofs.Hung.{top_hung, forest_hung}
use Rattle.forest.proofs.Merged.{OneOf, merged, merged_comm, same_merged}

module _ {parent : Parents} {a b : ℕ} (f : Forest parent) (ia : IsTop parent a) (ib : IsTop parent b) (distinct : a ≢ b) where
  -- What is left, with the top that stays.
  record United (next : Parents) : Type 0 where
    forest : Forest next
    stays : ℕ
    one : OneOf a b stays
    tops : (t : ℕ) → t < TASKS → top_of next t ≡ merged a b stays (top_of parent t)

  joined_stays : tree_size parent a ≤ tree_size parent b → United (hung a b parent)
  joined_stays le = record { forest = forest_hung f ia ib distinct le; stays = b; one = inr refl; tops = top_hung f ia ib distinct }

  joiner_stays : tree_size parent b ≤ tree_size parent a → United (hung b a parent)
  joiner_stays le =
      let other : b ≢ a = λ e. distinct (sym e) in
      record {
        forest = forest_hung f ib ia other le;
        stays = a;
        one = inl refl;
        tops = λ t l. top_hung f ib ia other t l ∙ merged_comm a b a (top_of parent t);
      }

  united_is : United (united a b parent)
  unfolding united
  united_is =
      by_test (ltb (tree_size parent a) (tree_size parent b)) (λ e. rw e (joined_stays (omega (arith, ltb-true))))
      (λ e. rw e (joiner_stays (omega (arith, ltb-false))))

  pub forest_united : Forest (united a b parent)
  forest_united = united_is.forest

  -- Two tasks have one top afterwards exactly if they had one before or each had one of the two.
  pub same_top_united : (t v : ℕ) → t < TASKS → v < TASKS
      → (top_of (united a b parent) t ≡ top_of (united a b parent) v)
      ↔ ((top_of parent t ≡ top_of parent v) ⊎ (OneOf a b (top_of parent t) × OneOf a b (top_of parent v)))
  same_top_united t v lt lv =
      let u = united_is in
      let same = same_merged a b u.stays (top_of parent t) (top_of parent v) u.one in (
        λ e. same.0 (sym (u.tops t lt) ∙ (e ∙ u.tops v lv)),
        λ w. u.tops t lt ∙ (same.1 w ∙ sym (u.tops v lv)),
      )
