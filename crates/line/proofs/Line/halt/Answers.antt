-- `Line::halt` meets its contract: at most 1,024 tasks are left of the running one, so the cell for one more is there. Assumes nothing.
use native.Mathlib.Omega.{arith}
use Rattle.line.specs.Cells.{halted_in}
use Rattle.line.proofs.Bounds.{depths_fit}
use Rattle.line.proofs.Line.halt.Goals as goal

pub overflow_add-ws : goal.overflow_add-ws
unfolding halted_in
overflow_add-ws c = omega (arith, depths_fit c.requires.sound)

pub offset_bounds-ws-self : goal.offset_bounds-ws-self
unfolding halted_in
offset_bounds-ws-self c = omega (arith, depths_fit c.requires.sound)

pub bounds-ws-self : goal.bounds-ws-self
unfolding halted_in
bounds-ws-self c = omega (arith, depths_fit c.requires.sound)

pub returns : goal.returns
unfolding halted_in
returns c = cc
