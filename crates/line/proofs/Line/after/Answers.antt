-- `Line::after` meets its contract: at most one of its tests counts. Assumes nothing.
use Rattle.line.proofs.Depths.{after_computed}
use Rattle.line.proofs.Line.after.Goals as goal

pub returns : goal.returns
returns c = after_computed c.args.self c.args.kind c.from.ensures c.from-2.ensures c.from-halted.ensures
