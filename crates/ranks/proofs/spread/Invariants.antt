-- `ranks::spread` meets its contract. Assumes nothing.
use Rattle.ranks.proofs.Spreading.{Spreading}
use Rattle.ranks.proofs.spread.Given as goal

abbrev pub invariant-loop-p : goal.invariant-loop-p
invariant-loop-p l = Spreading l.kinds l.events l.initial.ws l.ws l.current l.p
