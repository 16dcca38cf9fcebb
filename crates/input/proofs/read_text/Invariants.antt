-- `input::read_text` ends: every turn but the last fills more of the buffer. Assumes nothing.
use Rattle.std.proofs.Common.{◌≡◌, ◌-◌, length}
use Rattle.input.proofs.Reading.{Begun}
use Rattle.input.proofs.read_text.Given as goal

abbrev pub invariant-loop-more : goal.invariant-loop-more
invariant-loop-more g l = Begun l.initial.text l.text l.filled × (length l.text ≡ length l.initial.text)

abbrev pub decreases-loop-more : goal.decreases-loop-more
decreases-loop-more g l = length l.text - l.filled
