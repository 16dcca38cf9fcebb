-- `input::read_text`: a turn whose read goes on fills more of the buffer, and one whose read ends leaves what the promise says (`turned`). Assumes nothing.
use Rattle.std.proofs.Common.{rules, arith, ◌∙◌}
use Rattle.input.proofs.Reading.{begins, turned}
use Rattle.input.proofs.read_text.Goals as goal

pub loop-more-init : goal.loop-more-init
loop-more-init g c = (begins _, search rules)

pub loop-more-smaller : goal.loop-more-smaller
loop-more-smaller g c =
    let once = c.read_more.ensures in
    let turn = turned _ _ _ _ c.loop-more.invariant.0 _ _ once c.in-Continue.is in
    omega (arith, turn, once.read.long)

pub loop-more-preserved : goal.loop-more-preserved
loop-more-preserved g c =
    let once = c.read_more.ensures in
    let turn = turned _ _ _ _ c.loop-more.invariant.0 _ _ once c.in-Continue.is in
    (turn.0, once.read.long ∙ c.loop-more.invariant.1)

pub returns-in-Break : goal.returns-in-Break
returns-in-Break g c = turned _ _ _ _ c.loop-more.invariant.0 _ _ c.read_more.ensures c.in-Break.is
