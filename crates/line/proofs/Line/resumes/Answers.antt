-- `Line::resumes` meets its contract: the cell below the last of the active tasks is in the tables. Assumes nothing.
use native.Mathlib.Omega.{arith}
use Rattle.line.proofs.Bounds.{depths_fit}
use Rattle.line.proofs.Rows.{resumed_none, resumed_below}
use Rattle.line.proofs.Line.resumes.Goals as goal

pub returns-then-self-lt2 : goal.returns-then-self-lt2
returns-then-self-lt2 c = search resumed_none

pub overflow_add-result : goal.overflow_add-result
overflow_add-result c = omega (arith, depths_fit c.requires)

pub offset_bounds-ws-self : goal.offset_bounds-ws-self
offset_bounds-ws-self c = omega (arith, depths_fit c.requires)

pub bounds-ws-self : goal.bounds-ws-self
bounds-ws-self c = omega (arith, depths_fit c.requires)

pub returns : goal.returns
returns c = search resumed_below
