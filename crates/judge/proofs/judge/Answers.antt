-- `judge::judge` meets its contract. Assumes nothing.
use mathlib.Core.Path.{refl}
use Rattle.std.proofs.lemmas.Result.{err_from_is_err_and}
use Rattle.trace.specs.Answers.{judge_reply, judge_links}
use Rattle.sizes.proofs.Sizing.{buffers_lent}
use Rattle.judge.proofs.Judging.{promised_sizes, promised_examined}
use Rattle.judge.proofs.judge.Goals as goal

pub returns-in_err-check_buffers : goal.returns-in_err-check_buffers
unfolding judge_reply judge_links
returns-in_err-check_buffers c =
    let p = err_from_is_err_and c.from_residual.result c.from_residual.ensures.1 in
    let q = promised_sizes _ _ _ _ _ _ _ _ _ _ _ c.in_err-check_buffers.ensures (rw (p.1, p.2) (refl, refl)) refl refl refl in
    record { outcome = q.0; demand1 = q.1.0; demand2 = q.1.1.0; demand3 = q.1.1.1.0; chains = q.1.1.1.1 }

pub examine-requires : goal.examine-requires
examine-requires c =
    let lent = buffers_lent _ _ _ _ _ _ c.in_ok-check_buffers.ensures in
    record { sized = lent.0; roomy = lent.1 }

pub returns : goal.returns
returns c =
    let p = promised_examined _ _ _ _ _ _ _ _ _ _ c.in_ok-check_buffers.ensures c.examine.ensures.second_after in
    record { outcome = p.0; demand1 = p.1.0; demand2 = p.1.1.0; demand3 = p.1.1.1.0; chains = p.1.1.1.1 }
