-- What cells that hold the line of a run give the functions over them: the two stacks together have at most 1,024 tasks. Assumes nothing.
use Prim.Native.Nat.{ℕ, ◌+◌, ◌≤◌}
use mathlib.Core.List.{List}
use native.Mathlib.Omega.{arith}
use lib.ListN.{length}
use Rattle.trace.specs.Trace.{Trace, TASKS, WORKSPACE_CELLS}
use Rattle.trace.specs.Line.{Line as TraceLine}
use Rattle.trace.proofs.Run.{stacks_length}
use Rattle.line.specs.declared.Line.{Line}
use Rattle.line.specs.Held.{LineAt, Sound}

pub depths_few : {rule : TraceLine → ℕ} {tr : Trace} {n : ℕ} {c : List ℕ} {line : Line} → LineAt rule tr n c line → line.active + line.left ≤ TASKS
depths_few {rule} {tr} at =
    let active = at.cells.active_depth in
    let left = at.cells.left_depth in
    omega (arith, stacks_length rule tr at.run)

-- The same, and that the tables are there.
pub depths_fit : {c : List ℕ} {line : Line} → Sound c line → (WORKSPACE_CELLS ≤ length c) × (line.active + line.left ≤ TASKS)
depths_fit s = (s.at.cells.room, depths_few s.at)
