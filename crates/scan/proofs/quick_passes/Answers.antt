-- `scan::quick_passes` meets its contract. Assumes nothing.
use Rattle.scan.proofs.Largest.{quick_back, quick_passed}
use Rattle.scan.proofs.quick_passes.Goals as goal

pub returns-then-x-cell : goal.returns-then-x-cell
returns-then-x-cell c = search quick_back

pub returns : goal.returns
returns c = search quick_passed
