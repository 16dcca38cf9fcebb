-- What the cells mean: the line of a run; and which cells it leaves to others. Assumes nothing.
use Rattle.std.specs.Prelude.{ℕ, ◌+◌, ◌<◌, ◌≤◌, ◌≡◌, true, List, [], ◌∷◌, ◌⊎◌, length, get_or}
use Rattle.trace.specs.Trace.{Trace, is_access, TASKS, LOCATIONS, WORKSPACE_CELLS}
use Rattle.trace.specs.Line.{Line as TraceLine}
use Rattle.trace.proofs.Tests.{Tests}
use Rattle.trace.proofs.Stacks.{In}
use Rattle.trace.proofs.Run.{Run}
use Rattle.line.specs.declared.Line.{Line}
use Rattle.line.specs.Cells.{USED, LEFT, ACTIVE, is_used_in}

-- A stack stands in the cells from base on, its top last.
abbrev pub StackAt : List ℕ → ℕ → List ℕ → Type 0
StackAt c base [] = Unit {0}
StackAt c base (y ∷ l) = (get_or c (base + length l) 0 ≡ y) × StackAt c base l

-- The cells hold these two stacks and these used numbers.
pub record LineCells (c : List ℕ) (line : Line) (left active used : List ℕ) : Type 0 where
  pub room : WORKSPACE_CELLS ≤ length c
  pub left_depth : line.left ≡ length left
  pub active_depth : line.active ≡ length active
  pub left_cells : StackAt c LEFT left
  pub active_cells : StackAt c ACTIVE active
  pub used_cells : (t : ℕ) → t < TASKS → Tests (is_used_in c t) (In t used)

-- The cells hold the line after the first n events of a trace, with one rule or another for a halt's operand.
pub record LineAt (haltRule : TraceLine → ℕ) (tr : Trace) (n : ℕ) (c : List ℕ) (line : Line) : Type 0 where
  pub left : List ℕ
  pub active : List ℕ
  pub used : List ℕ
  pub last : ℕ → ℕ
  pub run : Run haltRule tr n left active used last
  pub cells : LineCells c line left active used

-- The cells hold the line of some trace: what the functions over the line ask for.
pub record Sound (c : List ℕ) (line : Line) : Type 0 where
  pub rule : TraceLine → ℕ
  pub trace : Trace
  pub events : ℕ
  pub at : LineAt rule trace events c line

-- A cell of the tables that hold the line: USED, LEFT and ACTIVE.
abbrev pub OfLine : ℕ → Type 0
OfLine i = (i < USED + TASKS) ⊎ ((LEFT ≤ i) × (i < ACTIVE + TASKS))

-- Any other cell.
abbrev pub Free : ℕ → Type 0
Free i = ((USED + TASKS ≤ i) × (i < LEFT)) ⊎ (ACTIVE + TASKS ≤ i)

-- The other cells are as they were, and there are as many.
pub record SameFree (entry exit : List ℕ) : Type 0 where
  pub long : length exit ≡ length entry
  pub same : (i : ℕ) → Free i → get_or exit i 0 ≡ get_or entry i 0

-- Event i is an access of x to a location.
pub record AccessBy (tr : Trace) (x i : ℕ) : Type 0 where
  pub kind : is_access (tr.kind i) ≡ true
  pub task : tr.task i ≡ x
  pub location : tr.operand i < LOCATIONS
