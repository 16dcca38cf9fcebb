-- One event's step in the cells is the document's step: where the line in the cells is that of the first n events, the step at event n leaves the line of
-- the first n + 1, or refuses by the row that event n meets. With one rule or another for a halt's operand: what the step is given for that is such that the
-- cells say of it what the rule says of the trace's own (`Given`). Assumes nothing.
use Prim.Native.Nat.{ℕ, suc, ◌≤◌}
use mathlib.Core.Path.{◌≡◌, refl, sym, ap, subst, ◌∙◌}
use mathlib.Core.Bool.{Bool, true, false, not, true≢false, false≢true}
use mathlib.Core.List.{List, [], ◌∷◌}
use mathlib.Core.Logic.{◌≢◌}
use native.Mathlib.Omega.{arith}
use lib.Dec.{eqb, leb}
use lib.ListN.{length}
use borrow.Author.Tests.{eqb-true, eq-eqb, ne_eqb, leb-false, not-false}
use Rattle.trace.specs.Trace.{Trace, FORK, JOIN, HALT, is_kind, is_access, LOCATIONS, TASKS, WORKSPACE_CELLS}
use Rattle.trace.specs.Line.{Line as TraceLine, Checked, passes, fails, row, is_empty, is_head, is_member, resumed, halt_operand, step_by_kind, step, line_after}
use Rattle.trace.proofs.Tests.{by_test, either, tests_fails, tests_unique, tests_map, test_eq}
use Rattle.trace.proofs.Lines.{line_more}
use Rattle.trace.proofs.EventKinds.{access_not_halt, rest_is_halt}
use Rattle.trace.proofs.Stacks.{In, distinct_length, updated}
use Rattle.trace.proofs.Run.{Run, line_of, start, access, fork, join, halt, used_numbers, stacks_length, distinct_stacks}
use Rattle.trace.proofs.TwoStacks.{test_member, left_is_head, line_of_law}
use Rattle.line.specs.declared.Line.{Line}
use Rattle.line.specs.Rules.{rule_of}
use Rattle.line.specs.Cells.{depths, is_used_in, started_in}
use Rattle.line.specs.Steps.{Stepped, row_in, location_in, fork_in, join_in, halt_in, act_in, task_in, event_in}
use Rattle.line.specs.Held.{LineCells, LineAt, SameFree}
use Rattle.line.proofs.Moves.{running_is, nearest_is, resumed_is, free_eq, start_cells, fork_cells, fork_free, halt_cells, halt_free, join_cells}

-- The starting line.
pub line_start : (rule : TraceLine → ℕ) (tr : Trace) (c : List ℕ) → WORKSPACE_CELLS ≤ length c → LineAt rule tr 0 (started_in c) (depths 1 0)
line_start rule tr c room = record { left = []; active = 0 ∷ []; used = 0 ∷ []; last = λ t. 0; run = start; cells = start_cells c room }

eqb_sym : (a b : ℕ) → eqb a b ≡ eqb b a
eqb_sym a b = tests_unique (eqb a b) (eqb b a) (test_eq a b) (tests_map (λ e. sym e) (λ e. sym e) (test_eq b a))

-- The next line is held, and no cell outside the line's tables changes.
pub record Next (rule : TraceLine → ℕ) (tr : Trace) (n : ℕ) (c : List ℕ) (line : Line) (exit : List ℕ) : Type 0 where
  pub at : LineAt rule tr (suc n) exit line
  pub free : SameFree c exit

-- What a step in the cells says, beside what the document's rows say of event n: the next line is held, or the same row is met and no cell changes.
abbrev pub Agrees : (TraceLine → ℕ) → Trace → ℕ → List ℕ → Checked TraceLine → Checked Line → List ℕ → Type 0
Agrees rule tr n c rows (passes line) exit = Next rule tr n c line exit
Agrees rule tr n c rows (fails number) exit = (rows ≡ fails number) × (exit ≡ c)

-- The operand that the step at event n is given: the event's own; where that halts, one that names the task that resumes exactly if the rule takes the event's own.
pub record Given (rule : TraceLine → ℕ) (tr : Trace) (n operand : ℕ) : Type 0 where
  pub own : tr.kind n ≢ HALT → operand ≡ tr.operand n
  pub halts : tr.kind n ≡ HALT → (line : TraceLine) → line_after rule tr n ≡ passes line
      → eqb operand (halt_operand line) ≡ eqb (tr.operand n) (rule line)

-- With the rule of K6 it is always the event's own.
pub own_operand : (tr : Trace) (n : ℕ) → Given halt_operand tr n (tr.operand n)
own_operand tr n = record { own = λ h. refl; halts = λ h line e. refl }

module _ (rule : TraceLine → ℕ) (tr : Trace) (n : ℕ) (c : List ℕ) where
  abbrev Matches : Checked TraceLine → Stepped → Type 0
  Matches rows s = Agrees rule tr n c rows s.result s.cells

  -- one row, the same condition on both sides
  matches_row :
      (number : ℕ) (condition condition' : Bool) (next : Checked TraceLine) (s : Stepped) → condition ≡ condition'
      → (condition' ≡ false → Matches next s) → Matches (row number condition next) (row_in c number condition' s)
  unfolding row row_in
  matches_row number true true next s e f = (refl, refl)
  matches_row number true false next s e f = absurd (true≢false e)
  matches_row number false true next s e f = absurd (false≢true e)
  matches_row number false false next s e f = f refl

  abbrev x : ℕ
  x = tr.task n

  abbrev a : ℕ
  a = tr.operand n

  module _ (line : Line) (left paused used : List ℕ) (last : ℕ → ℕ) (run : Run rule tr n left (x ∷ paused) used last)
      (l : LineCells c line left (x ∷ paused) used) where
    matches_access : is_access (tr.kind n) ≡ true → Matches (row 8 (leb LOCATIONS a) (passes (line_of left (x ∷ paused) used))) (location_in c line a)
    unfolding location_in
    matches_access k =
        matches_row 8 _ _ _ _ refl
        (λ e.
        record {
          at =
              record {
                left = left;
                active = x ∷ paused;
                used = used;
                last = updated last x (suc n);
                run = access run k (leb-false LOCATIONS a e);
                cells = l;
              };
          free = free_eq c c refl;
        })

    matches_fork :
        (next : TraceLine) → tr.kind n ≡ FORK → Matches (row 9 (leb TASKS a) (row 10 (is_member a used) (passes next))) (fork_in c line a)
    unfolding fork_in
    matches_fork next k =
        matches_row 9 _ _ _ _ refl
        (λ e.
        let small = leb-false TASKS a e in
        let same : is_member a used ≡ is_used_in c a = tests_unique _ _ (test_member a used) (l.used_cells a small) in
        matches_row 10 _ _ _ _ same
        (λ f.
        let new : In a used → ⊥ = λ i. tests_fails (is_used_in c a) (l.used_cells a small) f i in
        let u = used_numbers rule tr run in
        let few = distinct_length TASKS (a ∷ used) (new, u.distinct) (λ y i. either i (λ q. omega arith) (u.small y)) in
        let fit = u.stacks_fit in
        record {
          at =
              record {
                left = left;
                active = a ∷ x ∷ paused;
                used = a ∷ used;
                last = updated (updated last x (suc n)) a (suc n);
                run = fork run k small new;
                cells = fork_cells l a small (omega arith);
              };
          free = fork_free l a small (omega arith);
        }))

    matches_halt :
        (next : TraceLine) (operand : ℕ) → tr.kind n ≡ HALT → Given rule tr n operand
        → Matches (row 12 (not (eqb a (rule (line_of left (x ∷ paused) used)))) (passes next)) (halt_in c line operand)
    unfolding halt_in halt_operand
    matches_halt next operand k given =
        let same : eqb operand (resumed paused) ≡ eqb a (rule (line_of left (x ∷ paused) used)) = given.halts k _ (line_of_law rule tr run) in
        rw (resumed_is (x ∷ paused) l)
        (matches_row 12 _ _ _ _ (ap not (sym same))
        (λ e.
        let fit = stacks_length rule tr run in
        record {
          at =
              record {
                left = x ∷ left;
                active = paused;
                used = used;
                last = updated last x (suc n);
                run = halt run k (eqb-true a (rule (line_of left (x ∷ paused) used)) (sym same ∙ not-false _ e));
                cells = halt_cells l fit;
              };
          free = halt_free l fit;
        }))

  -- the left neighbour, if there is one, is the operand
  matches_join :
      (line : Line) (left paused used : List ℕ) (last : ℕ → ℕ) → Run rule tr n left (x ∷ paused) used last
      → LineCells c line left (x ∷ paused) used → (next : TraceLine) → tr.kind n ≡ JOIN
      → Matches (row 11 (not (is_head a left)) (passes next)) (join_in c line a)
  unfolding join_in is_head row row_in
  matches_join line [] paused used last run l next k = rw l.left_depth (refl, refl)
  matches_join line (v ∷ left) paused used last run l next k =
      let depth : line.left ≢ 0 = λ e. let d = l.left_depth in omega arith in
      rw (ne_eqb line.left 0 depth, nearest_is l)
      (matches_row 11 _ _ _ _ refl
      (λ e.
      let same : v ≡ a = eqb-true v a (not-false _ e) in
      record {
        at =
            record {
              left = left;
              active = x ∷ paused;
              used = used;
              last = updated last x (suc n);
              run = join (subst (λ (z : ℕ). Run rule tr n (z ∷ left) (x ∷ paused) used last) same run) k;
              cells = join_cells l;
            };
        free = free_eq c c refl;
      }))

  module _ (operand : ℕ) (given : Given rule tr n operand) where
    -- the one row for the event's kind
    matches_kind :
        (line : Line) (left paused used : List ℕ) (last : ℕ → ℕ) → Run rule tr n left (x ∷ paused) used last
        → LineCells c line left (x ∷ paused) used → is_kind (tr.kind n) ≡ true
        → Matches (step_by_kind rule (tr.kind n) x a (line_of left (x ∷ paused) used)) (act_in c line (rule_of (tr.kind n)) operand)
    unfolding step_by_kind rule_of act_in
    matches_kind line left paused used last run l named =
        by_test (is_access (tr.kind n)) (λ e. rw (e, given.own (access_not_halt (tr.kind n) e)) (matches_access line left paused used last run l e))
        (λ e.
        by_test (eqb (tr.kind n) FORK) (λ f. rw (e, f, given.own (λ h. omega (arith, eqb-true (tr.kind n) FORK f))) (matches_fork line left paused used last run l _ (eqb-true _ _ f)))
        (λ f.
        by_test (eqb (tr.kind n) JOIN)
        (λ j.
        rw (e, f, j, given.own (λ h. omega (arith, eqb-true (tr.kind n) JOIN j)), left_is_head a x left paused (distinct_stacks rule tr run))
        (matches_join line left paused used last run l _ (eqb-true _ _ j)))
        (λ j.
        let h = rest_is_halt (tr.kind n) named e f j in
        rw (e, f, j, eq-eqb (tr.kind n) HALT h) (matches_halt line left paused used last run l _ operand h given))))

    -- rows 6 and 7
    matches_active :
        (line : Line) (left active used : List ℕ) (last : ℕ → ℕ) → Run rule tr n left active used last
        → LineCells c line left active used → is_kind (tr.kind n) ≡ true
        → Matches (row 6 (is_empty active) (row 7 (not (is_head x active)) (step_by_kind rule (tr.kind n) x a (line_of left active used))))
        (task_in c line (rule_of (tr.kind n)) x operand)
    unfolding task_in is_empty is_head row row_in
    matches_active line left [] used last run l named = rw l.active_depth (refl, refl)
    matches_active line left (y ∷ paused) used last run l named =
        let depth : line.active ≢ 0 = λ e. let d = l.active_depth in omega arith in
        rw (ne_eqb line.active 0 depth, running_is l)
        (matches_row 7 _ _ _ _ (ap not (eqb_sym y x))
        (λ e.
        let same : y ≡ x = sym (eqb-true x y (not-false _ e)) in
        rw same
        (matches_kind line left paused used last (subst (λ (z : ℕ). Run rule tr n left (z ∷ paused) used last) same run)
        (subst (λ (z : ℕ). LineCells c line left (z ∷ paused) used) same l) named)))

-- THE LAW OF ONE EVENT.
module _ {rule : TraceLine → ℕ} {tr : Trace} {n : ℕ} {c : List ℕ} {line : Line} (at : LineAt rule tr n c line) {operand : ℕ} (given : Given rule tr n operand) where
  abbrev step_in : Stepped
  step_in = event_in c line (tr.kind n) (tr.task n) operand

  pub event_law : Agrees rule tr n c (line_after rule tr (suc n)) step_in.result step_in.cells
  unfolding event_in step
  event_law =
      rw (line_more rule tr n (line_of at.left at.active at.used) (line_of_law rule tr at.run))
      (matches_row rule tr n c 5 _ _ _ _ refl
      (λ e. matches_active rule tr n c operand given line at.left at.active at.used at.last at.run at.cells (not-false _ e)))
