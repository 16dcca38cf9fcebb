-- The measure of `scan` is the room that is left. Assumes nothing.
use Rattle.plan_reader.proofs.reading.+scan.Given as goal

abbrev pub decreases-scan : goal.decreases-scan
decreases-scan l = l.room
