-- `told_texts::plan` meets its contract: its answer is told by a code and values, and with it comes what it means (`Plans`). Assumes nothing.
use Rattle.told_texts.proofs.Plans.{promised_told}
use Rattle.told_texts.proofs.plan.Goals as goal

pub returns : goal.returns
returns c =
    let p = promised_told _ _ _ c.translate-answer.ensures.outcome c.tell.ensures in
    record { outcome = p.0; grammar = p.1.0; trace = p.1.1 }
