-- `emit` meets its contract: at each turn some of the plan's events are stored, and the machine goes on to write the others (`Passing`). Assumes nothing.
use Rattle.plan_reader.proofs.Passing.{stage_begins, stage_goes, stage_falls, stage_room, stage_more, stage_ends}
use Rattle.plan_reader.proofs.emission.emit.Goals as goal

pub loop-writer-init : goal.loop-writer-init
loop-writer-init c = search stage_begins

pub step-step-requires-clause-goes : goal.step-step-requires-clause-goes
step-step-requires-clause-goes c = stage_goes _ _ _ _ _ _ c.loop-writer.invariant c.loop-writer-test.true

pub store-count-requires : goal.store-count-requires
store-count-requires c =
    stage_room _ _ _ _ _ _ c.loop-writer.invariant c.loop-writer-test.true _ _ c.step-step.ensures.depth c.step-step.ensures.moves

pub loop-writer-smaller : goal.loop-writer-smaller
loop-writer-smaller c =
    stage_falls _ _ _ _ _ _ c.loop-writer.invariant c.loop-writer-test.true _ _ c.step-step.ensures.depth c.step-step.ensures.moves

pub loop-writer-preserved : goal.loop-writer-preserved
loop-writer-preserved c =
    stage_more _ _ _ _ _ _ c.loop-writer.invariant c.loop-writer-test.true _ _ c.step-step.ensures.depth c.step-step.ensures.moves _ _
    c.store-count.ensures.count c.store-count.ensures.events

pub returns : goal.returns
returns c = stage_ends _ _ _ _ _ _ c.loop-writer.invariant c.loop-writer-test.false
