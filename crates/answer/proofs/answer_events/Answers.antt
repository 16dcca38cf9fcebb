-- `answer::answer_events` meets its contract: what is rendered is the judge's outcome, and its links are the judge's. Assumes nothing.
use Rattle.answer.proofs.Answering.{render_judged, links_judged}
use Rattle.answer.proofs.answer_events.Goals as goal

pub returns : goal.returns
returns c =
    let a = c.args in
    let promised = c.judge-answer.ensures in
    record { answer = render_judged a.kinds.now a.tasks.now a.operands.now c.judge-answer.result _ _ _ promised.outcome _ _ c.render.ensures; chains = links_judged a.kinds.now a.tasks.now a.operands.now c.judge-answer.result _ _ _ promised.outcome promised.chains }
