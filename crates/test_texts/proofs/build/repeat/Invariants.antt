-- `test_texts::build::repeat`: every line stays within the buffer. Assumes nothing.
use Rattle.std.proofs.Common.{◌≡◌, ◌≤◌, length}
use Rattle.test_texts.proofs.build.repeat.Given as goal

abbrev pub invariant-loop : goal.invariant-loop
invariant-loop l = (l.at ≤ length l.text) × (length l.text ≡ length l.initial.text)
