-- `pairs::pass` meets its contract: before each turn the pairs of the events before t are counted or written. Assumes nothing.
use Rattle.pairs.specs.Pairs.{slices}
use Rattle.pairs.proofs.Passing.{Passing}
use denote.Param.{number}
use Rattle.pairs.specs.contracts.pass.{WRITTEN-type}
use Rattle.pairs.proofs.pass.Given as goal

abbrev pub invariant-loop-t : goal.invariant-loop-t
invariant-loop-t g l = Passing l.trace.kinds.now l.trace.operands.now l.initial.ws l.ws (WRITTEN-type (number g.row.WRITTEN)) (slices l.initial.earlier l.initial.later) (slices l.earlier l.later) l.count l.t
