-- `told::judge` meets its contract: its answer is told by a code and values, and with it comes what is demanded (`Heard`). Assumes nothing.
use Rattle.told.proofs.Heard.{promised_told}
use Rattle.told.proofs.judge.Goals as goal

pub returns : goal.returns
returns c =
    let p = promised_told _ _ _ _ _ _ _ c.judge-answer.ensures.outcome c.tell.ensures in
    record { outcome = p.0; demand1 = p.1.0; demand2 = p.1.1.0; demand3 = p.1.1.1.0; chains = p.1.1.1.1 }
