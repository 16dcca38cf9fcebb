-- `told::convert` meets its contract: its answer is told by a code and values, and with it comes what is demanded (`Conversions`). Assumes nothing.
use Rattle.told.proofs.Conversions.{promised_told}
use Rattle.told.proofs.convert.Goals as goal

pub returns : goal.returns
returns c =
    let p = promised_told _ _ _ _ _ c.convert-answer.ensures.outcome c.tell.ensures in
    record { outcome = p.0; demand1 = p.1.0; halts = p.1.1.0; verdict = p.1.1.1 }
