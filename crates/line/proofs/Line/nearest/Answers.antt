-- `Line::nearest` meets its contract: the last cell of the tasks left of the running one is in the tables. Assumes nothing.
use native.Mathlib.Omega.{arith}
use Rattle.line.proofs.Bounds.{depths_fit}
use Rattle.line.proofs.Line.nearest.Goals as goal

pub overflow_add-result : goal.overflow_add-result
overflow_add-result c = omega (arith, depths_fit c.requires.sound)

pub offset_bounds-ws-self : goal.offset_bounds-ws-self
offset_bounds-ws-self c = omega (arith, depths_fit c.requires.sound)

pub bounds-ws-self : goal.bounds-ws-self
bounds-ws-self c = omega (arith, depths_fit c.requires.sound)
