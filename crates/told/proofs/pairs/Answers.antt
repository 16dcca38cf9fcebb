-- `told::pairs` meets its contract: its answer is told by a code and values, and with it comes what is demanded (`ClosePairs`). Assumes nothing.
use Rattle.told.proofs.ClosePairs.{promised_told}
use Rattle.told.proofs.pairs.Goals as goal

pub returns : goal.returns
returns c =
    let p = promised_told _ _ _ _ _ _ c.list-answer.ensures.outcome c.tell.ensures in
    record { outcome = p.0; demand1 = p.1.0; pairs = p.1.1 }
