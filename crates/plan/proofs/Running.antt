-- The run of a plan's events (`runs`): they keep the line rules, leave the two stacks as they were, and are a stretch (`Stretches`) whose leaves reach each other as
-- the plan says. Assumes nothing.
use Prim.Native.Nat.{ℕ, suc, ◌+◌, ◌<◌, ◌≤◌}
use mathlib.Core.Path.{◌≡◌, refl, sym, ap, subst, ◌∙◌}
use mathlib.Core.Bool.{true}
use mathlib.Core.List.{List, ◌∷◌}
use mathlib.Core.Logic.{◌⊎◌, inl, inr, ◌≢◌, ◌↔◌}
use native.Mathlib.Omega.{arith}
use Rattle.trace.specs.Trace.{Trace, FORK, JOIN, HALT, is_access, LOCATIONS, TASKS}
use Rattle.trace.specs.Line.{resumed, halt_operand}
use Rattle.trace.specs.Graph.{Reach}
use Rattle.trace.proofs.Tests.{either}
use Rattle.trace.proofs.EventKinds.{access_not_join}
use Rattle.trace.proofs.Paths.{Forward, reach_le}
use Rattle.trace.proofs.Stacks.{In, updated, updated_same, updated_other}
use Rattle.trace.proofs.Tips.{ReachesTip}
use Rattle.trace.proofs.Run.{Run, used_numbers, access, fork, join, halt}
use Rattle.plan.specs.Plans.{Plan, leaf, pair, InRange}
use Rattle.plan.specs.Events.{kind_of, event, forks, events_from}
use Rattle.plan.specs.Leaves.{Leaf, here, of_left, of_right, events, position, InSeries}
use Rattle.plan.specs.Decided.{IsLeaf}
use Rattle.plan.specs.declared.Access.{Access}
use Rattle.plan.specs.declared.Access.TheVariants.{Read, Write, Sum}
use Rattle.plan.specs.declared.Operator.TheVariants.{Series, Parallel}
use Rattle.plan.proofs.Standing.{Is, Stand, Parallels, stand_series, stand_parallel}
use Rattle.plan.proofs.Stretches.{Stretch, stretch_from, from_tip, stretch_series, stretch_parallel, stretch_event, reach_joined}

-- ---- positions

-- A leaf's position is one of the plan's events.
pub position_within : (p : Plan) (x : Leaf p) (n : ℕ) → (n ≤ position p x n) × (position p x n < n + events p)
position_within (leaf k l) here n = (omega arith, omega arith)
position_within (pair Series a b) (of_left x) n = let i = position_within a x n in (i.0, omega arith)
position_within (pair Series a b) (of_right x) n = let i = position_within b x (n + events a) in (omega arith, omega arith)
position_within (pair Parallel a b) (of_left x) n = let i = position_within a x (n + 1) in (omega arith, omega arith)
position_within (pair Parallel a b) (of_right x) n = let i = position_within b x (n + 2 + events a) in (omega arith, omega arith)

kind_access : (k : Access) → is_access (kind_of k) ≡ true
unfolding is_access
kind_access Read = refl
kind_access Write = refl
kind_access Sum = refl

not_series : Parallel ≡ Series → ⊥
not_series e = let z : ◌≡◌ {A = ℕ} 0 1 = cc in omega arith

module _ (tr : Trace) where
  -- Each leaf's event stands at its position.
  pub leaf_stands : (p : Plan) (x next n : ℕ) → Stand tr n (events_from p x next) → (y : Leaf p) → IsLeaf tr p y (position p y n)
  leaf_stands (leaf k l) x next n s here = record { kind = s.0.kind_is; location = s.0.operand_is }
  leaf_stands (pair Series a b) x next n s (of_left y) =
      let i = leaf_stands a x next n (stand_series tr a b x next n s).0 y in record { kind = i.kind; location = i.location }
  leaf_stands (pair Series a b) x next n s (of_right y) =
      let i = leaf_stands b x (next + forks a) (n + events a) (stand_series tr a b x next n s).1 y in record { kind = i.kind; location = i.location }
  leaf_stands (pair Parallel a b) x next n s (of_left y) =
      let i = leaf_stands a next (next + 1) (n + 1) (stand_parallel tr a b x next n s).one y in record { kind = i.kind; location = i.location }
  leaf_stands (pair Parallel a b) x next n s (of_right y) =
      let i = leaf_stands b x (next + 1 + forks a) (n + 2 + events a) (stand_parallel tr a b x next n s).two y in
      record { kind = i.kind; location = i.location }

  -- ---- one event of a run, told by its task

  abbrev RunOf : ℕ → List ℕ → List ℕ → List ℕ → (ℕ → ℕ) → Type 0
  RunOf n left active used last = Run halt_operand tr n left active used last

  moved : {m n : ℕ} {left active used : List ℕ} {last : ℕ → ℕ} → m ≡ n → RunOf m left active used last → RunOf n left active used last
  moved {left = left} {active = active} {used = used} {last = last} e r = subst (λ (z : ℕ). RunOf z left active used last) e r

  access_as : {n x : ℕ} {left paused used : List ℕ} {last : ℕ → ℕ} → tr.task n ≡ x → is_access (tr.kind n) ≡ true → tr.operand n < LOCATIONS →
      RunOf n left (x ∷ paused) used last → RunOf (suc n) left (x ∷ paused) used (updated last x (suc n))
  access_as t k o run = rw t at (access (rw (← t) at run) k o)

  fork_as : {n x c : ℕ} {left paused used : List ℕ} {last : ℕ → ℕ} → Is tr n (event FORK x c) → c < TASKS → (In c used → ⊥) →
      RunOf n left (x ∷ paused) used last → RunOf (suc n) left (c ∷ (x ∷ paused)) (c ∷ used) (updated (updated last x (suc n)) c (suc n))
  fork_as i small new run =
      rw (i.task_is, i.operand_is) at (fork (rw (← i.task_is) at run) i.kind_is (rw i.operand_is small) (rw i.operand_is new))

  halt_as : {n x y : ℕ} {left paused used : List ℕ} {last : ℕ → ℕ} → Is tr n (event HALT x y) →
      RunOf n left (x ∷ (y ∷ paused)) used last → RunOf (suc n) (x ∷ left) (y ∷ paused) used (updated last x (suc n))
  unfolding halt_operand resumed
  halt_as i run = rw i.task_is at (halt (rw (← i.task_is) at run) i.kind_is i.operand_is)

  join_as : {n x v : ℕ} {left paused used : List ℕ} {last : ℕ → ℕ} → Is tr n (event JOIN x v) →
      RunOf n (v ∷ left) (x ∷ paused) used last → RunOf (suc n) left (x ∷ paused) used (updated last x (suc n))
  join_as i run = rw i.task_is at (join (rw (← i.task_is, ← i.operand_is) at run) i.kind_is)

  -- ---- the run of a plan

  -- No number from `next` on is used.
  abbrev pub Fresh : ℕ → List ℕ → Type 0
  Fresh next used = (t : ℕ) → next ≤ t → In t used → ⊥

  -- The paths among the plan's events from n on, which are entered by one tip and left by another.
  pub record Paths (graph : ℕ) (p : Plan) (n from to : ℕ) : Type 0 where
    pub stretch : Stretch tr graph n (events p) from to
    pub leaves : (x y : Leaf p) → x ≢ y → Reach tr graph (position p x n) (position p y n) ↔ InSeries p x y

  -- The run after the plan's events, which task x ran: the stacks are as they were, and so are the tips of the other tasks.
  pub record Ran (p : Plan) (x next n : ℕ) (left paused used : List ℕ) (last : ℕ → ℕ) : Type 0 where
    pub used' : List ℕ
    pub last' : ℕ → ℕ
    pub run : RunOf (n + events p) left (x ∷ paused) used' last'
    pub fresh : Fresh (next + forks p) used'
    pub older : (t : ℕ) → In t used → In t used'
    pub tips : (t : ℕ) → In t used → t ≢ x → last' t ≡ last t
    pub paths : (graph : ℕ) → Forward tr graph → n + events p ≤ graph → Paths graph p n (last x) (last' x)

  -- ---- a leaf

  module _ (k : Access) (l x next n : ℕ) {left paused used : List ℕ} {last : ℕ → ℕ} (is : Is tr n (event (kind_of k) x l)) (small : l < LOCATIONS)
      (run : RunOf n left (x ∷ paused) used last) (fresh : Fresh next used) where
    leaf_access : is_access (tr.kind n) ≡ true
    leaf_access = rw is.kind_is (kind_access k)

    leaf_paths : (graph : ℕ) → Forward tr graph → n + 1 ≤ graph → Paths graph (leaf k l) n (last x) (updated last x (suc n) x)
    leaf_paths graph forward inside =
        let s = stretch_event halt_operand tr graph forward run (omega arith) (access_not_join (tr.kind n) leaf_access) in
        record {
          stretch = rw (updated_same last x (suc n) x refl) (rw is.task_is at s);
          leaves = one_leaf;
        }
      where
        one_leaf : (y z : Leaf (leaf k l)) → y ≢ z → Reach tr graph (position (leaf k l) y n) (position (leaf k l) z n) ↔ InSeries (leaf k l) y z
        one_leaf here here other = absurd (other refl)

    leaf_ran : Ran (leaf k l) x next n left paused used last
    leaf_ran =
        record {
          used' = used;
          last' = updated last x (suc n);
          run = moved (omega arith) (access_as is.task_is leaf_access (rw is.operand_is small) run);
          fresh = λ t h. fresh t (omega arith);
          older = λ t i. i;
          tips = λ t i other. updated_other last x (suc n) t other;
          paths = leaf_paths;
        }

  -- ---- S: the one plan, then the other

  -- A leaf that is later than another does not reach it.
  not_back : {graph m n : ℕ} {B : Type 0} → Forward tr graph → n < m → (B → ⊥) → Reach tr graph m n ↔ B
  not_back forward h never = (λ r. let i = reach_le forward r in absurd (omega arith), λ b. absurd (never b))

  module _ (a b : Plan) (x next n : ℕ) {left paused used : List ℕ} {last : ℕ → ℕ} (one : Ran a x next n left paused used last)
      (two : Ran b x (next + forks a) (n + events a) left paused one.used' one.last') where
    module _ (graph : ℕ) (forward : Forward tr graph) (inside : n + (events a + events b) ≤ graph) where
      first : Paths graph a n (last x) (one.last' x)
      first = one.paths graph forward (omega arith)

      second : Paths graph b (n + events a) (one.last' x) (two.last' x)
      second = two.paths graph forward (omega arith)

      series_leaves : (y z : Leaf (pair Series a b)) → y ≢ z →
          Reach tr graph (position (pair Series a b) y n) (position (pair Series a b) z n) ↔ InSeries (pair Series a b) y z
      series_leaves (of_left y) (of_left z) other = first.leaves y z (λ e. other (ap (λ (w : Leaf a). of_left w) e))
      series_leaves (of_left y) (of_right z) other =
          let i = position_within a y n in
          let j = position_within b z (n + events a) in (
            λ r. refl,
            λ e. (second.stretch.into (position a y n) (position b z (n + events a)) i.1 j.0 j.1).1 (first.stretch.own (position a y n) i.0 i.1),
          )
      series_leaves (of_right y) (of_left z) other =
          let i = position_within b y (n + events a) in
          let j = position_within a z n in
          not_back forward (omega arith) (λ e. e)
      series_leaves (of_right y) (of_right z) other = second.leaves y z (λ e. other (ap (λ (w : Leaf b). of_right w) e))

      series_paths : Paths graph (pair Series a b) n (last x) (two.last' x)
      series_paths = record { stretch = stretch_series tr graph first.stretch second.stretch; leaves = series_leaves }

    series_ran : Ran (pair Series a b) x next n left paused used last
    series_ran =
        record {
          used' = two.used';
          last' = two.last';
          run = moved (omega arith) two.run;
          fresh = λ t h. two.fresh t (omega arith);
          older = λ t i. two.older t (one.older t i);
          tips = λ t i other. two.tips t (one.older t i) other ∙ one.tips t i other;
          paths = series_paths;
        }

  -- ---- P: the child, then its halt, the parent, and the join

  module _ (a b : Plan) (x next n : ℕ) {left paused used : List ℕ} {last : ℕ → ℕ} (run : RunOf n left (x ∷ paused) used last)
      (fresh : Fresh next used) (parts : Parallels tr a b x next n) where
    x_used : In x used
    x_used = (used_numbers halt_operand tr run).of_active x (inl refl)

    new : (t : ℕ) → In t used → t ≢ next
    new t i e = fresh t (omega arith) i

    -- The tips after the fork,
    abbrev last_forked : ℕ → ℕ
    last_forked = updated (updated last x (suc n)) next (suc n)

    forked_child : last_forked next ≡ suc n
    forked_child = updated_same (updated last x (suc n)) next (suc n) next refl

    forked_parent : last_forked x ≡ suc n
    forked_parent = updated_other (updated last x (suc n)) next (suc n) x (new x x_used) ∙ updated_same last x (suc n) x refl

    forked : next < TASKS → RunOf (n + 1) left (next ∷ (x ∷ paused)) (next ∷ used) last_forked
    forked small = moved (omega arith) (fork_as parts.forking small (fresh next (omega arith)) run)

    forked_fresh : Fresh (next + 1) (next ∷ used)
    forked_fresh t h i = either i (λ e. omega arith) (fresh t (omega arith))

    module _ (one : Ran a next (next + 1) (n + 1) left (x ∷ paused) (next ∷ used) last_forked) where
      -- and after the halt.
      abbrev last_halted : ℕ → ℕ
      last_halted = updated one.last' next (suc (n + 1 + events a))

      halted : RunOf (n + 2 + events a) (next ∷ left) (x ∷ paused) one.used' last_halted
      halted = moved (omega arith) (halt_as parts.halting one.run)

      halted_parent : last_halted x ≡ suc n
      halted_parent =
          updated_other one.last' next (suc (n + 1 + events a)) x (new x x_used) ∙ (one.tips x (inr x_used) (new x x_used) ∙ forked_parent)

      halted_child : last_halted next ≡ suc (n + 1 + events a)
      halted_child = updated_same one.last' next (suc (n + 1 + events a)) next refl

      child_used : In next one.used'
      child_used = one.older next (inl refl)

      module _ (two : Ran b x (next + 1 + forks a) (n + 2 + events a) (next ∷ left) paused one.used' last_halted) where
        abbrev join_at : ℕ
        join_at = n + 2 + events a + events b

        parallel_tips : (t : ℕ) → In t used → t ≢ x → updated two.last' x (suc join_at) t ≡ last t
        parallel_tips t i other =
            updated_other two.last' x (suc join_at) t other
            ∙ (two.tips t (one.older t (inr i)) other
            ∙ (updated_other one.last' next (suc (n + 1 + events a)) t (new t i)
            ∙ (one.tips t (inr i) (new t i)
            ∙ (updated_other (updated last x (suc n)) next (suc n) t (new t i) ∙ updated_other last x (suc n) t other))))

        module _ (graph : ℕ) (forward : Forward tr graph) (inside : n + (3 + (events a + events b)) ≤ graph) where
          inner : Paths graph a (n + 1) (last_forked next) (one.last' next)
          inner = one.paths graph forward (omega arith)

          outer : Paths graph b (n + 2 + events a) (last_halted x) (two.last' x)
          outer = two.paths graph forward (omega arith)

          forking : Stretch tr graph n 1 (last x) (suc n)
          forking =
              let k = parts.forking.kind_is in
              rw parts.forking.task_is at (stretch_event halt_operand tr graph forward run (omega arith) (λ j. omega arith))

          halting : Stretch tr graph (n + 1 + events a) 1 (one.last' next) (suc (n + 1 + events a))
          halting =
              let k = parts.halting.kind_is in
              rw parts.halting.task_is at (stretch_event halt_operand tr graph forward one.run (omega arith) (λ j. omega arith))

          child : Stretch tr graph (n + 1) (events a + 1) (suc n) (n + 1 + (events a + 1))
          child =
              let e : suc (n + 1 + events a) ≡ n + 1 + (events a + 1) = omega arith in
              rw e at (stretch_series tr graph (stretch_from tr graph forked_child inner.stretch) halting)

          on : Stretch tr graph (n + 1 + (events a + 1)) (events b) (suc n) (two.last' x)
          on =
              let e : n + 2 + events a ≡ n + 1 + (events a + 1) = omega arith in
              rw e at (stretch_from tr graph halted_parent outer.stretch)

          joining : (e : ℕ) → e < join_at → Reach tr graph e join_at ↔ (ReachesTip tr graph e (two.last' x) ⊎ ReachesTip tr graph e (suc (n + 1 + events a)))
          joining e h =
              let t = parts.joining.task_is in
              let o = parts.joining.operand_is in
              let j = reach_joined halt_operand tr graph forward two.run (omega arith) parts.joining.kind_is (inl o) e h in
              let c = two.tips next child_used (λ q. new x x_used (sym q)) ∙ halted_child in
              rw (t, o, c) at j

          parallel_stretch : Stretch tr graph n (3 + (events a + events b)) (last x) (suc join_at)
          parallel_stretch =
              let m : 2 + (events a + 1) + events b ≡ 3 + (events a + events b) = omega arith in
              let j : n + 1 + (events a + 1) + events b ≡ join_at = omega arith in
              let h : suc (n + 1 + events a) ≡ n + 1 + (events a + 1) = omega arith in
              rw (j, m) at
              (stretch_parallel tr graph forking child on (omega arith) (rw (← j, h) at joining))

          -- A leaf of the child is later than the fork, and what is on goes from the fork.
          parallel_leaves : (y z : Leaf (pair Parallel a b)) → y ≢ z →
              Reach tr graph (position (pair Parallel a b) y n) (position (pair Parallel a b) z n) ↔ InSeries (pair Parallel a b) y z
          parallel_leaves (of_left y) (of_left z) other = inner.leaves y z (λ e. other (ap (λ (w : Leaf a). of_left w) e))
          parallel_leaves (of_left y) (of_right z) other =
              let i = position_within a y (n + 1) in
              let j = position_within b z (n + 2 + events a) in (
                λ r.
                    let t = (on.into (position a y (n + 1)) (position b z (n + 2 + events a)) (omega arith) (omega arith) (omega arith)).0 r in
                    let back = reach_le forward (from_tip tr graph t) in
                    absurd (omega arith),
                λ e. absurd (not_series e),
              )
          parallel_leaves (of_right y) (of_left z) other =
              let i = position_within b y (n + 2 + events a) in
              let j = position_within a z (n + 1) in
              not_back forward (omega arith) (λ e. e)
          parallel_leaves (of_right y) (of_right z) other = outer.leaves y z (λ e. other (ap (λ (w : Leaf b). of_right w) e))

          parallel_paths : Paths graph (pair Parallel a b) n (last x) (updated two.last' x (suc join_at) x)
          parallel_paths =
              record {
                stretch = rw (updated_same two.last' x (suc join_at) x refl) parallel_stretch;
                leaves = parallel_leaves;
              }

        parallel_ran : Ran (pair Parallel a b) x next n left paused used last
        parallel_ran =
            record {
              used' = two.used';
              last' = updated two.last' x (suc join_at);
              run = moved (omega arith) (join_as parts.joining two.run);
              fresh = λ t h. two.fresh t (omega arith);
              older = λ t i. two.older t (one.older t (inr i));
              tips = parallel_tips;
              paths = parallel_paths;
            }

  -- THE RUN OF A PLAN'S EVENTS, where its tasks have numbers left.
  pub ran : (p : Plan) (x next n : ℕ) {left paused used : List ℕ} {last : ℕ → ℕ} → InRange p → next + forks p ≤ TASKS → Stand tr n (events_from p x next) →
      RunOf n left (x ∷ paused) used last → Fresh next used → Ran p x next n left paused used last
  ran (leaf k l) x next n in_range numbers s run fresh = leaf_ran k l x next n s.0 in_range run fresh
  ran (pair Series a b) x next n in_range numbers s run fresh =
      let parts = stand_series tr a b x next n s in
      let one = ran a x next n in_range.0 (omega arith) parts.0 run fresh in
      series_ran a b x next n one (ran b x (next + forks a) (n + events a) in_range.1 (omega arith) parts.1 one.run one.fresh)
  ran (pair Parallel a b) x next n in_range numbers s run fresh =
      let parts = stand_parallel tr a b x next n s in
      let one = ran a next (next + 1) (n + 1) in_range.0 (omega arith) parts.one
      (forked a b x next n run fresh parts (omega arith)) (forked_fresh a b x next n run fresh parts) in
      parallel_ran a b x next n run fresh parts one
      (ran b x (next + 1 + forks a) (n + 2 + events a) in_range.1 (omega arith) parts.two (halted a b x next n run fresh parts one) one.fresh)
