-- `answer::answer` meets its contract: the events of an accepted text stand in the first cells of the slices, and each row is the answer of the
-- definition (`Answering`). Assumes nothing.
use lib.Seq.{length-take-le}
use mathlib.Core.Path.{sym}
use Rattle.text.proofs.Stored.{fresh_sized, stored, said_refusal}
use Rattle.answer.proofs.Answering.{answer_events, answer_refusal, events_links, refusal_links, answered_within, answered_decided}
use Rattle.answer.proofs.answer.Goals as goal

pub slice_bounds-kinds-end : goal.slice_bounds-kinds-end
slice_bounds-kinds-end c =
    (stored _ _ fresh_sized _ _ _ _ c.translate-translation.ensures.outcome _ c.in-Ok.is).room.kinds

pub slice_bounds-tasks-end : goal.slice_bounds-tasks-end
slice_bounds-tasks-end c =
    (stored _ _ fresh_sized _ _ _ _ c.translate-translation.ensures.outcome _ c.in-Ok.is).room.tasks

pub slice_bounds-operands-end : goal.slice_bounds-operands-end
slice_bounds-operands-end c =
    (stored _ _ fresh_sized _ _ _ _ c.translate-translation.ensures.outcome _ c.in-Ok.is).room.operands

pub returns-in-Ok : goal.returns-in-Ok
returns-in-Ok c =
    let held = stored _ _ fresh_sized _ _ _ _ c.translate-translation.ensures.outcome _ c.in-Ok.is in
    let e = answer_events held _ _ c.answer_events.ensures.answer in
    record {
      answer = e;
      within = answered_within _ _ _ _ e;
      form = answered_decided _ _ _ e;
      chains = events_links held c.answer_events.ensures.chains;
    }

pub returns-in-Err : goal.returns-in-Err
returns-in-Err c =
    let refused = said_refusal _ _ fresh_sized _ _ _ _ c.translate-translation.ensures.outcome _ c.in-Err.is in
    let e = answer_refusal _ refused _ _ c.answer_refusal.ensures in
    record { answer = e; within = answered_within _ _ _ _ e; form = answered_decided _ _ _ e; chains = refusal_links _ refused }

pub slice_bounds-answer_events-end : goal.slice_bounds-answer_events-end
slice_bounds-answer_events-end c =
    sym (length-take-le _ _ (stored _ _ fresh_sized _ _ _ _ c.translate-translation.ensures.outcome _ c.in-Ok.is).room.kinds)

pub slice_bounds-answer_events-end-in-Ok : goal.slice_bounds-answer_events-end-in-Ok
slice_bounds-answer_events-end-in-Ok c =
    sym (length-take-le _ _ (stored _ _ fresh_sized _ _ _ _ c.translate-translation.ensures.outcome _ c.in-Ok.is).room.tasks)

pub slice_bounds-answer_events-end-in-Ok-2 : goal.slice_bounds-answer_events-end-in-Ok-2
slice_bounds-answer_events-end-in-Ok-2 c =
    sym (length-take-le _ _ (stored _ _ fresh_sized _ _ _ _ c.translate-translation.ensures.outcome _ c.in-Ok.is).room.operands)
