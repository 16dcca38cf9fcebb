-- `pairs::mark_partners` meets its contract: before each turn the events from `from` up to s are marked, and the partners among them counted. Assumes nothing.
use Rattle.pairs.proofs.Storing.{marking_begins, marking_more, marking_ends}
use Rattle.pairs.proofs.mark_partners.Goals as goal

pub loop-s-preserved : goal.loop-s-preserved
loop-s-preserved c =
    marking_more c.loop-s.invariant c.requires.1 _ c.is_partner-mark.ensures c.loop-s-test.true

pub returns : goal.returns
returns c =
    let done = marking_ends c.loop-s.invariant c.requires.1 c.loop-s-test.false in
    record { long = c.loop-s.invariant.long; each = done.0; counted = done.1.0; few = done.1.1 }

pub loop-s-init : goal.loop-s-init
loop-s-init c = marking_begins _ _ _ _ c.requires.2
