-- `scan::races` meets its contract. Assumes nothing.
use Rattle.scan.proofs.Kept.{kept_quiet, kept_racing}
use Rattle.scan.proofs.races.Goals as goal

pub returns-then-passes : goal.returns-then-passes
returns-then-passes c = search kept_quiet

pub returns : goal.returns
returns c = search kept_racing
