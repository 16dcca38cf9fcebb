-- `cards::tally` meets its contract: before each turn the tables hold the tally of the first i events (`Tallying`). Assumes nothing.
use Rattle.cards.specs.Tally.{Tallied, untasked}
use Rattle.cards.proofs.tally.Given as goal

abbrev pub invariant-loop-i : goal.invariant-loop-i
invariant-loop-i l = Tallied (untasked l.kinds l.operands) l.i l.initial.ws l.ws
