-- `scan::passes` meets its contract. Assumes nothing.
use Rattle.scan.proofs.Kept.{held_back, passed}
use Rattle.scan.proofs.passes.Goals as goal

pub returns-then-x-largest : goal.returns-then-x-largest
returns-then-x-largest c = search held_back

pub returns : goal.returns
returns c = search passed
