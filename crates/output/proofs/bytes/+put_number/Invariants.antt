-- The recursion of `output::bytes::put_number` ends: the number falls. Assumes nothing.
use Rattle.output.proofs.bytes.+put_number.Given as goal

abbrev pub decreases-put_number : goal.decreases-put_number
decreases-put_number l = l.n
