-- `pairs::mark_partners` meets its contract: before each turn the events from `from` up to s are marked, and the partners among them counted. Assumes nothing.
use Rattle.pairs.specs.Close.{partner_in}
use Rattle.pairs.proofs.Storing.{Marking}
use Rattle.pairs.proofs.mark_partners.Given as goal

abbrev pub invariant-loop-s : goal.invariant-loop-s
invariant-loop-s l = Marking (partner_in l.trace.kinds.now l.trace.operands.now l.ws l.access) l.from l.to l.marks l.count l.s
