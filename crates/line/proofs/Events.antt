-- What the row that `event` answers says of the trace, where the cells hold the line before event n: 0, that the cells now hold the line after it; any other,
-- that it is the first event that breaks a rule. And an access of the running task, which leaves the line as it is. Assumes nothing.
use Prim.Native.Nat.{ℕ, suc, ◌<◌}
use mathlib.Core.Path.{◌≡◌, refl, sym, ap, subst, ◌∙◌}
use mathlib.Core.Bool.{Bool, true, false}
use mathlib.Core.List.{List, ◌∷◌}
use native.Mathlib.Omega.{arith}
use borrow.Author.Tests.{eqb-false, not-false}
use Rattle.trace.specs.Trace.{Trace, is_kind}
use Rattle.trace.specs.Line.{Line as TraceLine, passes, fails, line_after}
use Rattle.trace.specs.Demands.{KeepsRules, BreaksFirst}
use Rattle.trace.proofs.Lines.{line_more, passes_not_fails}
use Rattle.trace.proofs.Stacks.{updated}
use Rattle.trace.proofs.Run.{Run, access, line_of}
use Rattle.trace.proofs.TwoStacks.{line_of_law}
use Rattle.std.specs.Prelude.{Result, Ok, Err}
use Rattle.trace.specs.Rows.{row_number}
use Rattle.trace.specs.declared.Row.{Row}
use Rattle.line.specs.declared.Line.{Line}
use Rattle.line.specs.Rules.{Join}
use Rattle.line.specs.Cells.{running_in}
use Rattle.line.specs.Steps.{Stepped, goes, rowed, Movable, row_in, join_in, act_in, task_in, event_in}
use Rattle.line.specs.Held.{LineCells, LineAt, SameFree, AccessBy}
use Rattle.line.proofs.Rows.{rule_join}
use Rattle.line.proofs.Bounds.{depths_few}
use Rattle.line.proofs.Moves.{running_first, free_eq}
use Rattle.line.proofs.EventLaw.{Agrees, Given, event_law}

-- ---- the events before n

-- Where the cells hold the line after n events, these keep the rules.
pub line_keeps : {rule : TraceLine → ℕ} {tr : Trace} {n : ℕ} {c : List ℕ} {line : Line} → LineAt rule tr n c line → KeepsRules rule tr n
line_keeps {rule} {tr} at = record { line = line_of at.left at.active at.used; reached = line_of_law rule tr at.run }

-- ---- event n

-- A row that is passed.
row_kept :
    (c : List ℕ) (number : ℕ) (condition : Bool) (s : Stepped) (line : Line) → (row_in c number condition s).result ≡ passes line
    → (condition ≡ false) × (s.result ≡ passes line)
unfolding row_in
row_kept c number true s line e = absurd (passes_not_fails e refl)
row_kept c number false s line e = (refl, e)

module _ {rule : TraceLine → ℕ} {tr : Trace} {n : ℕ} {c : List ℕ} {line : Line} (at : LineAt rule tr n c line) {operand : ℕ} (given : Given rule tr n operand)
    (next : Line) (result : Result (Unit {0}) Row) (exit : List ℕ) (said : rowed next result exit ≡ event_in c line (tr.kind n) (tr.task n) operand) where
  -- The law of one event, of the step that the code took.
  agrees : (s : Stepped) → s ≡ rowed next result exit → Agrees rule tr n c (line_after rule tr (suc n)) s.result s.cells
  agrees s e = rw (e ∙ said) (event_law at given)

  module _ {row : Row} (some : result ≡ Err row) where
    met : (line_after rule tr (suc n) ≡ fails (row_number row)) × (exit ≡ c)
    unfolding rowed
    met = agrees (record { result = fails (row_number row); cells = exit }) (rw some)

    -- It breaks a rule, as the first, and no cell changes;
    pub event_broken : BreaksFirst rule tr n (row_number row)
    event_broken =
        let before = line_keeps at in
        record {
          line = before.line;
          kept_before = before.reached;
          broken = sym (line_more rule tr n before.line before.reached) ∙ met.0;
        }

    pub event_unchanged : exit ≡ c
    event_unchanged = met.1

  module _ (none : result ≡ Ok tt) where
    step : goes next exit ≡ rowed next result exit
    unfolding rowed
    step = rw none

    passed : (event_in c line (tr.kind n) (tr.task n) operand).result ≡ passes next
    passed = ap (λ (s : Stepped). s.result) (sym (step ∙ said))

    -- or it keeps the rules, and the cells hold the line after it.
    pub event_next : LineAt rule tr (suc n) exit next
    event_next = (agrees (goes next exit) step).at

    -- Then its kind is one of the document's,
    pub event_kind : is_kind (tr.kind n) ≡ true
    unfolding event_in
    event_kind = not-false _ (row_kept c _ _ _ next passed).0

    -- a task runs,
    pub event_active : 0 < line.active
    unfolding event_in task_in
    event_active =
        let five = row_kept c _ _ _ next passed in
        let some = eqb-false line.active 0 (row_kept c _ _ _ next five.1).0 in
        omega arith

    -- and `after` has what it asks.
    pub event_movable : Movable line (tr.kind n)
    unfolding event_in task_in act_in join_in
    event_movable =
        let five = row_kept c _ _ _ next passed in
        let six = row_kept c _ _ _ next five.1 in
        let seven = row_kept c _ _ _ next six.1 in
        let few = depths_few at in
        record {
          few_active = omega arith;
          few_left = omega arith;
          halts = λ k. event_active;
          joins = λ k.
              let join : (act_in c line Join operand).result ≡ passes next = rw (← rule_join (tr.kind n) k) at seven.1 in
              let some = eqb-false line.left 0 (row_kept c _ _ _ next join).0 in
              omega arith;
        }

  free_by : (r : Result (Unit {0}) Row) → result ≡ r → SameFree c exit
  free_by (Ok done) none = (agrees (goes next exit) (step none)).free
  free_by (Err row) some = free_eq c exit (event_unchanged some)

  -- NO CELL OUTSIDE THE LINE'S TABLES changes.
  pub event_free : SameFree c exit
  event_free = free_by result refl

-- ---- an access of the running task

module _ {rule : TraceLine → ℕ} {tr : Trace} {c : List ℕ} {line : Line} {x : ℕ} (some : 0 < line.active) (runs : x ≡ running_in c line) where
  -- It leaves the line as it is.
  pub line_access : (n : ℕ) → LineAt rule tr n c line → AccessBy tr x n → LineAt rule tr (suc n) c line
  line_access n at a =
      let first = running_first at.active at.cells some (a.task ∙ runs) in
      record {
        left = at.left;
        active = tr.task n ∷ first.0;
        used = at.used;
        last = updated at.last (tr.task n) (suc n);
        run = access (subst (λ (l : List ℕ). Run rule tr n at.left l at.used at.last) first.1 at.run) a.kind a.location;
        cells = subst (λ (l : List ℕ). LineCells c line at.left l at.used) first.1 at.cells;
      }
