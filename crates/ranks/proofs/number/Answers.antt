-- `ranks::number` meets its contract. Assumes nothing.
use mathlib.Core.Path.{◌∙◌}
use borrow.Author.Rules.{rules}
use Rattle.ranks.proofs.Numbering.{number_begin, number_all, number_turn, number_small, number_finish}
use Rattle.ranks.proofs.number.Goals as goal

pub cell-next-requires : goal.cell-next-requires
cell-next-requires c = search rules

pub put-requires : goal.put-requires
put-requires c = search rules

pub loop-next-init : goal.loop-next-init
loop-next-init c =
    number_begin c.requires c.cell-next.ensures c.put.ensures

pub overflow_add-place : goal.overflow_add-place
overflow_add-place c = let small = number_small c.loop-next.invariant c.loop-next-test.true in search rules

pub cell-next-requires-in-loop-next : goal.cell-next-requires-in-loop-next
cell-next-requires-in-loop-next c =
    let small = number_small c.loop-next.invariant c.loop-next-test.true in
    let long = c.loop-next.invariant.long in
    let room = c.requires.room in
    search rules

pub put-requires-in-loop-next : goal.put-requires-in-loop-next
put-requires-in-loop-next c =
    let small = number_small c.loop-next.invariant c.loop-next-test.true in
    let long = c.loop-next.invariant.long in
    let room = c.requires.room in
    search rules

pub loop-next-smaller : goal.loop-next-smaller
loop-next-smaller c =
    let small = number_small c.loop-next.invariant c.loop-next-test.true in
    search rules

pub loop-next-preserved : goal.loop-next-preserved
loop-next-preserved c =
    number_turn c.loop-next.invariant c.loop-next-test.true _ _ c.cell-next-in-loop-next.ensures c.put-in-loop-next.ensures

pub returns : goal.returns
returns c =
    number_finish c.loop-next.invariant c.loop-next-test.false
    ∙ number_all c.requires c.cell-next.ensures c.put.ensures
