-- `chains::build` meets its contract. Assumes nothing.
use Rattle.trace.specs.Trace.{trace_of}
use Rattle.chains.proofs.Building.{Building}
use Rattle.chains.proofs.build.Given as goal

abbrev pub invariant-loop-k : goal.invariant-loop-k
invariant-loop-k l = Building (trace_of l.trace.kinds.now l.trace.tasks.now l.trace.operands.now) l.events l.fn.ws l.ws l.k
