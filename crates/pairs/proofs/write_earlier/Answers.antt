-- `pairs::write_earlier` meets its contract: before each turn the marked events up to s are written. Assumes nothing.
use mathlib.Core.Path.{refl}
use Rattle.pairs.specs.Close.{is_marked}
use Rattle.pairs.proofs.Storing.{writing_begins, writing_marked, writing_ends}
use Rattle.pairs.proofs.write_earlier.Goals as goal

pub loop-i-preserved : goal.loop-i-preserved
unfolding is_marked
loop-i-preserved c =
    let more = c.loop-i-test.true in
    writing_marked _ c.loop-i.invariant c.requires.all refl (c.requires.bits c.loop-i.s c.loop-i.invariant.low (c.loop-i.invariant.inside more)) more c.requires.room

pub loop-i-init : goal.loop-i-init
loop-i-init c = writing_begins _ _ _ _ _ _ c.requires.all

pub returns : goal.returns
returns c = writing_ends c.loop-i.invariant c.requires.all c.loop-i-test.false
