-- `test_texts::build::checksum` is safe: both sums stay below 65,521. Assumes nothing.
use Rattle.std.proofs.Common.{◌<◌}
use Rattle.test_texts.proofs.build.checksum.Given as goal

abbrev pub invariant-loop-byte : goal.invariant-loop-byte
invariant-loop-byte l = (l.low < 65521) × (l.high < 65521)
