-- The table of joins in cells while the events are gone through, and what the crate promises. Assumes nothing.
use Rattle.std.specs.Prelude.{ℕ, ◌≤◌, ◌<◌, ◌≡◌, List}
use Rattle.trace.specs.Trace.{Trace, TASKS}
use Rattle.trace.specs.Joins.{joins_after, longest_after}
use Rattle.trace.specs.Demands.{FewLinks}
use Rattle.cells.specs.Cells.{SameFrom}
use Rattle.forest.specs.Forest.{FOREST_CELLS, parents, ForestIn}

-- "Every caller's promise carries that bound": in the table after each number of events up to this one no chain has more than 10 links.
abbrev pub Bounded : Trace → ℕ → Type 0
Bounded tr events = (m : ℕ) → m ≤ events → FewLinks tr m

-- The cells hold the table after the first n events.
pub record JoinsAt (tr : Trace) (n : ℕ) (c : List ℕ) : Type 0 where
  pub forest_in : ForestIn c
  pub table : (t : ℕ) → t < TASKS → parents c t ≡ joins_after tr n t

-- They do at exit, and no cell past the forest's has changed.
pub record Taken (tr : Trace) (n : ℕ) (entry exit : List ℕ) : Type 0 where
  pub joins_at : JoinsAt tr n exit
  pub bound : Bounded tr n
  pub rest : SameFrom FOREST_CELLS entry exit

-- WHAT THE CRATE PROMISES of the first n events.
pub record LinksSay (tr : Trace) (n : ℕ) (entry exit : List ℕ) (links : ℕ) : Type 0 where
  pub largest : links ≡ longest_after tr n
  pub bound : Bounded tr n
  pub rest : SameFrom FOREST_CELLS entry exit
