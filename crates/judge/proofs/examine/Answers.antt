-- `judge::examine` meets its contract. Assumes nothing.
use Rattle.judge.proofs.Judging.{examined}
use Rattle.judge.proofs.examine.Goals as goal

pub returns : goal.returns
returns c =
    let decided = c.decide-answer.ensures in
    let both = examined _ _ _ _ _ _ _ _ _ _ _ decided c.clear.ensures in
    record { second_after = both.0; judge_links = both.1 }
