-- `pairs::pass` meets its contract: before each turn the pairs of the events before t are counted or written. Assumes nothing.
use Rattle.pairs.proofs.Passing.{begun_ready, begun_fits, passing_begins, passing_visitable, passing_next, passing_ends, pass_says_entry}
use Rattle.pairs.proofs.pass.Goals as goal

pub loop-t-init : goal.loop-t-init
loop-t-init g c = passing_begins _ _ c.requires.ready c.begin-first.ensures _ _

pub visit-count-requires : goal.visit-count-requires
visit-count-requires g c =
    let begun = c.begin-first.ensures in
    passing_visitable _ _ (begun_ready _ _ c.requires.ready begun) c.loop-t.invariant c.loop-t-test.true
    (begun_fits _ _ c.requires.ready begun c.requires.fits)

pub loop-t-preserved : goal.loop-t-preserved
loop-t-preserved g c =
    let begun = c.begin-first.ensures in
    passing_next _ _ (begun_ready _ _ c.requires.ready begun) c.loop-t.invariant c.loop-t-test.true
    (begun_fits _ _ c.requires.ready begun c.requires.fits) c.visit-count.ensures

pub returns : goal.returns
returns g c =
    let begun = c.begin-first.ensures in
    pass_says_entry begun.beyond (passing_ends _ _ (begun_ready _ _ c.requires.ready begun) c.loop-t.invariant c.loop-t-test.false)
