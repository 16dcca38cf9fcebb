-- `told::ordering` meets its contract: its answer is told by a code and values, and with it comes what is demanded (`Orderings`). Assumes nothing.
use Rattle.told.proofs.Orderings.{promised_told}
use Rattle.told.proofs.ordering.Goals as goal

pub returns : goal.returns
returns c =
    let p = promised_told _ _ _ _ _ _ _ _ (c.ordering-answer.ensures.outcome, (c.ordering-answer.ensures.demand1, c.ordering-answer.ensures.reach)) c.tell.ensures in
    record { outcome = p.0; demand1 = p.1.0; reach = p.1.1 }
