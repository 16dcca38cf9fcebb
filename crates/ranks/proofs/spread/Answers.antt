-- `ranks::spread` meets its contract. Assumes nothing.
use native.Mathlib.Omega.{arith}
use borrow.Author.Rules.{rules}
use Rattle.ranks.proofs.Counting.{count_few}
use Rattle.ranks.proofs.Spreading.{spread_begin, spread_inside, spread_turn, spread_finish}
use Rattle.ranks.proofs.spread.Goals as goal

pub loop-p-init : goal.loop-p-init
loop-p-init c = spread_begin _ _ _

pub own_segment-own-requires : goal.own_segment-own-requires
own_segment-own-requires c = count_few c.loop-p.invariant.counting c.requires.segments_in.few

pub cell-requires : goal.cell-requires
cell-requires c =
    let long = c.loop-p.invariant.filled.long in
    omega (arith, spread_inside c.loop-p.invariant c.requires.segments_in.few _ c.own_segment-own.ensures c.loop-p-test.true, c.requires.events_in_bounds)

pub overflow_add-ws : goal.overflow_add-ws
overflow_add-ws c = let long = c.loop-p.invariant.filled.long in search rules

pub offset_bounds-ws-p : goal.offset_bounds-ws-p
offset_bounds-ws-p c = let long = c.loop-p.invariant.filled.long in search rules

pub bounds-ws-p : goal.bounds-ws-p
bounds-ws-p c = let long = c.loop-p.invariant.filled.long in search rules

pub open_after-current-requires : goal.open_after-current-requires
open_after-current-requires c =
    let segments = c.requires.segments_in in
    (count_few c.loop-p.invariant.counting segments.few, segments.named _ c.loop-p-test.true)

pub loop-p-preserved : goal.loop-p-preserved
loop-p-preserved c =
    spread_turn c.loop-p.invariant c.requires.segments_in.few _ c.own_segment-own.ensures c.loop-p-test.true _ _
    c.requires.events_in_bounds c.cell.ensures c.open_after-current.ensures

pub returns : goal.returns
returns c = spread_finish c.loop-p.invariant c.loop-p-test.false
