-- Laws of the rows of a step, premises spelt as the code's tests and its callees' contracts are. The set `rows` holds them for `search`, which then
-- peels the tests one by one. Assumes nothing.
use Prim.Native.Nat.{ℕ, ◌+◌, ◌-◌, ◌≤◌, ◌<◌}
use mathlib.Core.Path.{◌≡◌, refl, sym, ap, ◌∙◌}
use mathlib.Core.Bool.{Bool, true, false, not}
use mathlib.Core.List.{List}
use mathlib.Core.Logic.{◌≢◌}
use native.Mathlib.Omega.{arith}
use lib.Dec.{eqb, leb}
use lib.ListN.{get_or}
use borrow.Author.Tests.{lt-ltb, le-ltb, le-leb, lt-leb, eq-eqb, ne_eqb}
use Rattle.trace.specs.Trace.{FORK, JOIN, SUM, LOCATIONS, is_kind, is_access}
use Rattle.trace.proofs.Tests.{by_test}
use Rattle.trace.proofs.EventKinds.{rest_is_halt}
use Rattle.std.specs.Prelude.{Result, Ok, Err}
use Rattle.trace.specs.Rows.{row_number}
use Rattle.trace.specs.declared.Row.{Row}
use Rattle.line.specs.declared.Line.{Line}
use Rattle.line.specs.Rules.{Rule, Access, Fork, Join, Halt, Unknown, rule_of}
use Rattle.line.specs.Cells.{ACTIVE, resumed_in, halted_in}
use Rattle.line.specs.Steps.{Stepped, goes, rowed, after_in, row_in, location_row, location_in, halt_in, act_in}

-- ---- tests: u is what the code read of v

pub read_same : (u v w : ℕ) → u ≡ v → u ≡ w → eqb v w ≡ true
read_same u v w e f = eq-eqb v w (sym e ∙ f)

pub read_other : (u v w : ℕ) → u ≡ v → u ≢ w → eqb v w ≡ false
read_other u v w e f = ne_eqb v w (λ g. f (e ∙ g))

pub same_read : (u v w : ℕ) → u ≡ v → w ≡ u → eqb w v ≡ true
same_read u v w e f = eq-eqb w v (f ∙ e)

pub other_read : (u v w : ℕ) → u ≡ v → w ≢ u → eqb w v ≡ false
other_read u v w e f = ne_eqb w v (λ g. f (g ∙ sym e))

pub not_met : (b : Bool) → b ≡ false → not b ≡ true
not_met b e = rw e

pub not_passed : (b : Bool) → b ≡ true → not b ≡ false
not_passed b e = rw e

-- ---- the task that resumes

pub resumed_none : (c : List ℕ) (line : Line) → line.active < 2 → 0 ≡ resumed_in c line
unfolding resumed_in
resumed_none c line h = rw (lt-ltb line.active 2 h) refl

pub resumed_below : (c : List ℕ) (line : Line) (task : ℕ) → 2 ≤ line.active → task ≡ get_or c (ACTIVE + line.active - 2) 0 → task ≡ resumed_in c line
unfolding resumed_in
resumed_below c line task h e = rw (le-ltb line.active 2 h) e

-- ---- the rows of a step

-- A row whose condition holds refuses.
pub row_met :
    (c : List ℕ) (line : Line) (row : Row) (number : ℕ) (b : Bool) (s : Stepped) → row_number row ≡ number → b ≡ true
    → rowed line (Err row) c ≡ row_in c number b s
unfolding rowed row_in
row_met c line row number b s e f = rw (f, ← e)

-- Any other leads to what comes next;
pub row_passed : (x : Stepped) (c : List ℕ) (number : ℕ) (b : Bool) (next : Stepped) → b ≡ false → x ≡ next → x ≡ row_in c number b next
unfolding row_in
row_passed x c number b next e f = rw e f

-- at the end, to the line and the cells that a move leaves.
pub row_goes : (line : Line) (c d : List ℕ) → c ≡ d → rowed line (Ok tt) c ≡ goes line d
unfolding rowed
row_goes line c d e = ap (goes line) e

-- Row 12: the operand is held against the task that resumes.
module _ (c : List ℕ) (line : Line) (operand parent : ℕ) (resumes : parent ≡ resumed_in c line) where
  pub halt_met : operand ≢ parent → rowed (after_in line Halt) (Err Row.NotResumed) c ≡ halt_in c line operand
  unfolding halt_in
  halt_met h = row_met c (after_in line Halt) Row.NotResumed 12 _ _ refl (not_met _ (ne_eqb operand (resumed_in c line) (λ e. h (e ∙ sym resumes))))

  pub halt_passed : (exit : List ℕ) → operand ≡ parent → exit ≡ halted_in c line → rowed (after_in line Halt) (Ok tt) exit ≡ halt_in c line operand
  unfolding halt_in
  halt_passed exit h e =
      row_passed _ c 12 _ _ (not_passed _ (eq-eqb operand (resumed_in c line) (h ∙ resumes))) (row_goes (after_in line Halt) exit (halted_in c line) e)

-- Row 8, which is told with no cells.
pub location_met : (a : ℕ) → LOCATIONS ≤ a → Err Row.UnknownLocation ≡ location_row a
unfolding location_row
location_met a h = rw (le-leb LOCATIONS a h)

pub location_passed : (a : ℕ) → a < LOCATIONS → Ok tt ≡ location_row a
unfolding location_row
location_passed a h = rw (lt-leb LOCATIONS a h)

pub location_told : (c : List ℕ) (line : Line) (result : Result (Unit {0}) Row) (a : ℕ) → result ≡ location_row a → rowed line result c ≡ location_in c line a
unfolding rowed row_in location_row location_in
location_told c line result a e = by_test (leb LOCATIONS a) (λ f. rw (e, f)) (λ f. rw (e, f))

pub unknown_told : (c : List ℕ) (line : Line) (a : ℕ) → rowed line (Err Row.UnknownKind) c ≡ act_in c line Unknown a
unfolding rowed act_in
unknown_told c line a = refl

-- The row of the rule that the match over the kind chose.
pub act_told :
    (c exit : List ℕ) (line : Line) (result : Result (Unit {0}) Row) (r rule : Rule) (a : ℕ) → r ≡ rule → rowed (after_in line r) result exit ≡ act_in c line r a
    → rowed (after_in line rule) result exit ≡ act_in c line rule a
act_told c exit line result r rule a e f = rw e at f

pub ruleset rows = (row_met, row_passed, row_goes, not_met, not_passed, le-leb, lt-leb, eq-eqb, ne_eqb, read_same, read_other, same_read, other_read)

-- ---- the rule of a kind

pub rule_access : (k : ℕ) → k ≤ SUM → k ≢ 2 → k ≢ 3 → k ≢ 4 → Access ≡ rule_of k
unfolding rule_of is_kind
rule_access k low fork join halt =
    by_test (is_access k) (λ a. rw a)
    (λ a. absurd (halt (rest_is_halt k (le-leb k SUM low) a (ne_eqb k FORK fork) (ne_eqb k JOIN join))))

pub rule_fork : (k : ℕ) → k ≡ 2 → Fork ≡ rule_of k
unfolding rule_of is_access
rule_fork k e = rw e

pub rule_join : (k : ℕ) → k ≡ 3 → Join ≡ rule_of k
unfolding rule_of is_access
rule_join k e = rw e

pub rule_halt : (k : ℕ) → k ≡ 4 → Halt ≡ rule_of k
unfolding rule_of is_access
rule_halt k e = rw e

pub rule_unknown : (k : ℕ) → SUM < k → Unknown ≡ rule_of k
unfolding rule_of is_access
rule_unknown k h =
    let no : (j : ℕ) → j ≤ SUM → eqb k j ≡ false = λ j i. ne_eqb k j (λ e. omega arith) in
    rw (no 0 (omega arith), no 1 (omega arith), no 2 (omega arith), no 3 (omega arith), no 4 (omega arith), no 5 (omega arith))

-- ---- row 5

pub kind_met : (k : ℕ) → SUM < k → is_kind k ≡ false
unfolding is_kind
kind_met k h = lt-leb k SUM h

pub kind_passed : (k : ℕ) → k ≤ SUM → is_kind k ≡ true
unfolding is_kind
kind_passed k h = le-leb k SUM h
