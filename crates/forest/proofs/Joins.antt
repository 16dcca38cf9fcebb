-- THE BOUND (document 02, K2). In every trace that keeps the line rules the table of joins is a forest, so that no chain of it has more than 10 links
-- (`few_links`); and at a join the two tasks are of two trees (`join_apart`), since each tree has at most one task that is not joined yet. Assumes nothing.
use Prim.Native.Nat.{ℕ, suc, ◌<◌}
use mathlib.Core.Path.{◌≡◌, refl, sym, ap, ◌∙◌}
use mathlib.Core.Bool.{true}
use mathlib.Core.List.{List, ◌∷◌}
use mathlib.Core.Logic.{◌≢◌, ◌⊎◌, inl, inr}
use native.Mathlib.Omega.{arith}
use borrow.Author.Tests.{eq-eqb, ne_eqb}
use lib.Dec.{eqb}
use Rattle.trace.specs.Trace.{Trace, JOIN, is_access, TASKS}
use Rattle.trace.specs.Line.{Line, halt_operand}
use Rattle.trace.specs.Joins.{Parents, alone, top, top_of, tree_size, united, joined_by, joins_after, longest_after}
use Rattle.trace.specs.Demands.{KeepsRules, FewLinks}
use Rattle.trace.proofs.Tests.{either}
use Rattle.trace.proofs.EventKinds.{access_not_join}
use Rattle.trace.proofs.Stacks.{In, in_eq}
use Rattle.trace.proofs.Run.{InLine, Run, start, access, fork, join, halt, used_numbers, distinct_stacks, halted_in_line, joined_gone}
use Rattle.trace.proofs.TwoStacks.{run_of}
use Rattle.trace.proofs.Counts.{count_one, count_same}
use Rattle.trace.proofs.Chains.{none_not_some, chain_ends}
use Rattle.forest.specs.Tables.{IsTop, Forest}
use Rattle.forest.proofs.Merged.{OneOf}
use Rattle.forest.proofs.Tops.{top_own, links_own, top_is_top, chain_few}
use Rattle.forest.proofs.Unions.{forest_united, same_top_united}

-- ---- before the first event

pub is_top_alone : (t : ℕ) → t < TASKS → IsTop alone t
unfolding alone
is_top_alone t l = record { below = l; free = refl }

pub size_alone : (h : ℕ) → h < TASKS → tree_size alone h ≡ 1
unfolding tree_size
size_alone h l =
    count_same TASKS _ (λ t. eqb t h) (λ t i. ap (λ (v : ℕ). eqb v h) (top_own (is_top_alone t i))) ∙ count_one TASKS h l

pub forest_alone : Forest alone
forest_alone =
    record {
      inside = λ t p l e. absurd (none_not_some (is_top_alone t l).free e);
      ends = λ t l. chain_ends (top (is_top_alone t l).free) (omega arith);
      doubled = λ t l. rw (links_own (is_top_alone t l), top_own (is_top_alone t l), size_alone t l) (omega arith);
    }

-- ---- one event

module _ (tr : Trace) (n : ℕ) where
  abbrev table : Parents
  table = joins_after tr n

  pub table_kept : tr.kind n ≢ JOIN → joins_after tr (suc n) ≡ table
  unfolding joins_after joined_by
  table_kept k = rw (ne_eqb (tr.kind n) JOIN k)

  pub table_joined : tr.kind n ≡ JOIN → joins_after tr (suc n) ≡ united (top_of table (tr.task n)) (top_of table (tr.operand n)) table
  unfolding joins_after joined_by
  table_joined k = rw (eq-eqb (tr.kind n) JOIN k)

-- An access leaves the table.
pub longest_access : (tr : Trace) (n : ℕ) → is_access (tr.kind n) ≡ true → longest_after tr (suc n) ≡ longest_after tr n
unfolding longest_after
longest_access tr n a = rw (table_kept tr n (access_not_join (tr.kind n) a))

-- ---- a run

-- A task that is not joined yet: it is in the line, or its number has not been used.
abbrev Unjoined : List ℕ → List ℕ → List ℕ → ℕ → Type 0
Unjoined left active used y = InLine left active y ⊎ (In y used → ⊥)

-- The table is a forest, and no two tasks that are not joined yet are of one tree.
record Apart (parent : Parents) (left active used : List ℕ) : Type 0 where
  forest : Forest parent
  apart :
      (y z : ℕ) → y < TASKS → z < TASKS → Unjoined left active used y → Unjoined left active used z → top_of parent y ≡ top_of parent z → y ≡ z

-- An event that is no join, after which no task is unjoined that was not before.
apart_kept : (tr : Trace) (n : ℕ) {left left' active active' used used' : List ℕ} → Apart (table tr n) left active used → tr.kind n ≢ JOIN
    → ((y : ℕ) → Unjoined left' active' used' y → Unjoined left active used y) → Apart (table tr (suc n)) left' active' used'
apart_kept tr n a k fewer =
    rw (table_kept tr n k)
    (record { forest = a.forest; apart = λ y z ly lz uy uz e. a.apart y z ly lz (fewer y uy) (fewer z uz) e })

-- A join joins two tasks, of two trees.
pub record JoinApart (tr : Trace) (n : ℕ) : Type 0 where
  pub task : tr.task n < TASKS
  pub operand : tr.operand n < TASKS
  pub apart : top_of (joins_after tr n) (tr.task n) ≢ top_of (joins_after tr n) (tr.operand n)

module _ (haltRule : Line → ℕ) (tr : Trace) where
  -- Both are not joined yet.
  join_tasks : {n : ℕ} {left paused used : List ℕ} {last : ℕ → ℕ} → Run haltRule tr n (tr.operand n ∷ left) (tr.task n ∷ paused) used last
      → Apart (table tr n) (tr.operand n ∷ left) (tr.task n ∷ paused) used → JoinApart tr n
  join_tasks {n} run a =
      let x = tr.task n in
      let v = tr.operand n in
      let u = used_numbers haltRule tr run in
      let lx : x < TASKS = u.small x (u.of_active x (inl refl)) in
      let lv : v < TASKS = u.small v (u.of_left v (inl refl)) in
      record {
        task = lx;
        operand = lv;
        apart = λ e.
            (distinct_stacks haltRule tr run).disjoint v (inl refl)
            (inl (sym (a.apart x v lx lv (inl (inl (inl refl))) (inl (inr (inl refl))) e)));
      }

  -- Then the joined task is.
  apart_joined : {n : ℕ} {left paused used : List ℕ} {last : ℕ → ℕ} → Run haltRule tr n (tr.operand n ∷ left) (tr.task n ∷ paused) used last
      → tr.kind n ≡ JOIN → Apart (table tr n) (tr.operand n ∷ left) (tr.task n ∷ paused) used → Apart (table tr (suc n)) left (tr.task n ∷ paused) used
  apart_joined {n} {left} {paused} {used} run k a =
      let x = tr.task n in
      let v = tr.operand n in
      let active = x ∷ paused in
      let d = distinct_stacks haltRule tr run in
      let u = used_numbers haltRule tr run in
      let two = join_tasks run a in
      let lx = two.task in
      let lv = two.operand in
      let ux : Unjoined (v ∷ left) active used x = inl (inl (inl refl)) in
      let uv : Unjoined (v ∷ left) active used v = inl (inr (inl refl)) in
      let was : (y : ℕ) → Unjoined left active used y → Unjoined (v ∷ left) active used y =
      λ y i. either i (λ j. inl (either j (λ l. inl l) (λ l. inr (inr l)))) (λ j. inr j) in
      let gone : (y : ℕ) → Unjoined left active used y → y ≢ v =
      λ y i. either i (joined_gone v left active d y) (λ j e. j (in_eq used e (u.of_left v (inl refl)))) in
      let f = a.forest in
      let ix = top_is_top f x lx in
      let iv = top_is_top f v lv in
      let is_x : (y : ℕ) → y < TASKS → Unjoined left active used y → OneOf (top_of (table tr n) x) (top_of (table tr n) v) (top_of (table tr n) y) → y ≡ x =
      λ y ly uy o. either o (λ e. a.apart y x ly lx (was y uy) ux e) (λ e. absurd (gone y uy (a.apart y v ly lv (was y uy) uv e))) in
      rw (table_joined tr n k) (record {
        forest = forest_united f ix iv two.apart;
        apart = λ y z ly lz uy uz e.
            either ((same_top_united f ix iv two.apart y z ly lz).0 e) (a.apart y z ly lz (was y uy) (was z uz))
            (λ o. is_x y ly uy o.0 ∙ sym (is_x z lz uz o.1));
      })

  apart_run : {n : ℕ} {left active used : List ℕ} {last : ℕ → ℕ} → Run haltRule tr n left active used last → Apart (table tr n) left active used
  unfolding joins_after
  apart_run start =
      record {
        forest = forest_alone;
        apart = λ y z ly lz uy uz e. sym (top_own (is_top_alone y ly)) ∙ (e ∙ top_own (is_top_alone z lz));
      }
  apart_run (access {n = n} run k o) = apart_kept tr n (apart_run run) (access_not_join (tr.kind n) k) (λ y u. u)
  apart_run (fork {n = n} {used = used} run k o new) =
      apart_kept tr n (apart_run run) (λ j. omega arith)
      (λ y u.
      either u
      (λ i. either i (λ j. either j (λ e. inr (λ w. new (in_eq used (sym e) w))) (λ l. inl (inl l))) (λ l. inl (inr l)))
      (λ w. inr (λ i. w (inr i))))
  apart_run (join run k) = apart_joined run k (apart_run run)
  apart_run (halt {n = n} {left = left} {paused = paused} run k o) =
      apart_kept tr n (apart_run run) (λ j. omega arith)
      (λ y u. either u (λ i. inl (halted_in_line (tr.task n) left paused y i)) (λ w. inr w))

  run_joins : {n : ℕ} {left active used : List ℕ} {last : ℕ → ℕ} → Run haltRule tr (suc n) left active used last → tr.kind n ≡ JOIN → JoinApart tr n
  run_joins (access {n = n} run a o) k = absurd (access_not_join (tr.kind n) a k)
  run_joins (fork run f o new) k = absurd (omega arith)
  run_joins (join run j) k = join_tasks run (apart_run run)
  run_joins (halt run h o) k = absurd (omega arith)

-- ---- a trace that keeps the line rules

pub join_apart : {tr : Trace} {n : ℕ} → KeepsRules halt_operand tr (suc n) → tr.kind n ≡ JOIN → JoinApart tr n
join_apart {tr} {n} kept k = run_joins halt_operand tr (run_of halt_operand tr (suc n) kept.line kept.reached).run k

module _ {tr : Trace} {n : ℕ} (kept : KeepsRules halt_operand tr n) where
  pub joins_forest : Forest (joins_after tr n)
  joins_forest = let to = run_of halt_operand tr n kept.line kept.reached in (apart_run halt_operand tr to.run).forest

  -- "never above 10"
  pub few_links : FewLinks tr n
  few_links =
      record {
        chain = joins_forest.ends;
        few = λ t h k l r. chain_few joins_forest t l r;
      }
