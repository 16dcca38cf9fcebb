-- `capi::racejudge_judge_cards` meets its contract: what is due fits, and the calls together keep the promises (`Finishing` of `cards`). Assumes nothing.
use Rattle.cards.proofs.Finishing.{call_fits, call_done}
use Rattle.capi.proofs.racejudge_judge_cards.Goals as goal

pub put_cards-requires : goal.put_cards-requires
put_cards-requires c = call_fits _ _ _ _ _ _ _ _ _ _ _ _ c.judge_counted-code.ensures _ c.due-k.ensures

pub wipe-requires : goal.wipe-requires
wipe-requires c = (call_fits _ _ _ _ _ _ _ _ _ _ _ _ c.judge_counted-code.ensures _ c.due-k.ensures).1

pub returns : goal.returns
returns c =
    let p = call_done _ _ _ _ _ _ _ _ _ _ _ _ c.judge_counted-code.ensures _ c.due-k.ensures _ c.wipe.ensures _ c.put_cards.ensures in
    record { outcome = p.0; cards = p.1.0; demand1 = p.1.1.0; demand2 = p.1.1.1.0; demand3 = p.1.1.1.1.0; chains = p.1.1.1.1.1 }
