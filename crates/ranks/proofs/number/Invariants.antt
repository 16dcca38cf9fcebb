-- `ranks::number` meets its contract. Assumes nothing.
use Prim.Native.Nat.{◌-◌}
use lib.ListN.{length}
use Rattle.ranks.specs.Lists.{SEGMENTS}
use Rattle.ranks.proofs.Numbering.{walk_in, Numbering}
use Rattle.ranks.proofs.number.Given as goal

abbrev pub invariant-loop-next : goal.invariant-loop-next
invariant-loop-next l = Numbering (walk_in 3071 l.initial.ws l.initial.place l.initial.next) (length l.initial.ws) l.ws l.place l.next

abbrev pub decreases-loop-next : goal.decreases-loop-next
decreases-loop-next l = SEGMENTS - l.place
