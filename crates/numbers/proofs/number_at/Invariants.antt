-- `numbers::number_at` meets its contract: the loop takes digits as long as the number goes (`Scans`). Assumes nothing.
use Prim.Native.Nat.{◌+◌}
use Rattle.numbers.proofs.Scans.{Counting}
use Rattle.numbers.proofs.number_at.Given as goal

abbrev pub invariant-loop-end : goal.invariant-loop-end
invariant-loop-end l = Counting l.greatest l.text (l.start + 1) l.initial.value l.end l.value
