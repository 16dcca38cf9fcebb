-- The loop of `convert::set_halts`: before each turn the halts before event i are set. Assumes nothing.
use Rattle.convert.proofs.Converting.{Converting}
use Rattle.convert.proofs.set_halts.Given as goal

abbrev pub invariant-loop-i : goal.invariant-loop-i
invariant-loop-i l = Converting l.kinds l.tasks l.initial.operands l.initial.ws l.operands l.ws l.line l.i
