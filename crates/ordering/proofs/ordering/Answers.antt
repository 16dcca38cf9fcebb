-- `ordering::ordering` meets its contract. Assumes nothing.
use mathlib.Core.Path.{refl}
use Rattle.std.proofs.lemmas.Result.{err_from_is_err_and}
use Rattle.trace.specs.Answers.{ordering_reply}
use Rattle.sizes.proofs.Sizing.{sizes_lent}
use Rattle.ordering.proofs.Asking.{promised_sizes, promised_asked}
use Rattle.ordering.proofs.ordering.Goals as goal

pub returns-in_err-check_sizes : goal.returns-in_err-check_sizes
unfolding ordering_reply
returns-in_err-check_sizes c =
    let p = err_from_is_err_and c.from_residual.result c.from_residual.ensures.1 in
    let q = promised_sizes _ _ _ _ c.args.p c.args.q _ _ _ c.in_err-check_sizes.ensures (rw (p.1, p.2) refl) refl in
    record { outcome = q.0; demand1 = q.1.0; reach = q.1.1 }

pub returns : goal.returns
returns c =
    let p = promised_asked _ _ _ _ _ _ _ _ c.in_ok-check_sizes.ensures c.ask.ensures in
    record { outcome = p.0; demand1 = p.1.0; reach = p.1.1 }

pub ask-requires : goal.ask-requires
ask-requires c = sizes_lent _ _ _ _ c.in_ok-check_sizes.ensures
