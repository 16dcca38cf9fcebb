-- `ranks::open_before` meets its contract: before each turn the moves so far are counted. Assumes nothing.
use Rattle.ranks.proofs.Counting.{Counting}
use Rattle.ranks.proofs.open_before.Given as goal

abbrev pub invariant-loop-kind : goal.invariant-loop-kind
invariant-loop-kind l = Counting l.fn.kinds l.fn.p l.current l.kind-index
