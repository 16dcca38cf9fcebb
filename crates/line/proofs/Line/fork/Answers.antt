-- `Line::fork` meets its contract: at most 1,024 tasks are active, so the cell for one more is there. Assumes nothing.
use native.Mathlib.Omega.{arith}
use lib.ListN.{length-set}
use Rattle.line.specs.Cells.{forked_in}
use Rattle.line.proofs.Bounds.{depths_fit}
use Rattle.line.proofs.Line.fork.Goals as goal

pub overflow_add-ws : goal.overflow_add-ws
unfolding forked_in
overflow_add-ws c = omega (arith, depths_fit c.requires.sound)

pub offset_bounds-ws-self : goal.offset_bounds-ws-self
unfolding forked_in
offset_bounds-ws-self c = omega (arith, depths_fit c.requires.sound)

pub bounds-ws-self : goal.bounds-ws-self
unfolding forked_in
bounds-ws-self c = omega (arith, depths_fit c.requires.sound)

pub put-requires : goal.put-requires
unfolding forked_in
put-requires c = simp length-set (omega (arith, depths_fit c.requires.sound))

pub shape_of-ws : goal.shape_of-ws
unfolding forked_in
shape_of-ws c = simp length-set at c.put.auto.ws

pub returns : goal.returns
unfolding forked_in
returns c = cc
