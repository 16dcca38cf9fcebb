-- `numbers::number_at` meets its contract: the loop takes digits as long as the number goes (`Scans`). Assumes nothing.
use Rattle.std.proofs.Common.{arith}
use Rattle.numbers.proofs.Scans.{number_stops, number_whole, counting_begins}
use Rattle.numbers.proofs.number_at.Goals as goal

pub loop-end-init : goal.loop-end-init
loop-end-init c = counting_begins _ _ _ _ (omega (arith, c.in_ok-first.ensures.lookup.3.0))

pub returns-in_default-clause-read : goal.returns-in_default-clause-read
returns-in_default-clause-read c =
    let l = c.in_ok-first.ensures.lookup in
    number_stops _ _ _ l.3.0 _ _ (l.3.1 0) c.in_ok-value.ensures _ _ c.loop-end.invariant c.loop-end-test.true c.in_default.ensures

pub returns-clause-read : goal.returns-clause-read
returns-clause-read c =
    let l = c.in_ok-first.ensures.lookup in
    number_whole _ _ _ l.3.0 _ _ (l.3.1 0) c.in_ok-value.ensures _ _ c.loop-end.invariant c.loop-end-test.false
