-- `report::copy` meets its contract: before each turn the first i cells are copied. Assumes nothing.
use mathlib.Core.Path.{◌≡◌}
use lib.ListN.{length, take}
use lib.Seq.{sets}
use Rattle.report.proofs.copy.Given as goal

abbrev pub invariant-loop-i : goal.invariant-loop-i
invariant-loop-i l = (l.to ≡ sets l.initial.to l.at (take l.i l.from)) × (length l.to ≡ length l.initial.to)
