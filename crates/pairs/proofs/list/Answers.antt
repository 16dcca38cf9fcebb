-- `pairs::list` meets its contract. Assumes nothing.
use mathlib.Core.Path.{refl}
use native.Mathlib.Omega.{arith}
use Rattle.std.proofs.lemmas.Result.{err_from_is_err_and}
use Rattle.trace.specs.Answers.{reply}
use Rattle.sizes.proofs.Sizing.{sizes_lent}
use Rattle.pairs.proofs.Promising.{promised_sizes, promised_gathered}
use Rattle.pairs.proofs.list.Goals as goal

pub returns-in_err-check_sizes : goal.returns-in_err-check_sizes
unfolding reply
returns-in_err-check_sizes c =
    let exit = err_from_is_err_and c.from_residual.result c.from_residual.ensures.1 in
    let p = promised_sizes _ _ _ _ _ _ _ _ _ _ c.in_err-check_sizes.ensures (rw (exit.1, exit.2) refl) refl refl in
    record { outcome = p.0; demand1 = p.1.0; pairs = p.1.1 }

pub gather-listed-requires : goal.gather-listed-requires
gather-listed-requires c = sizes_lent _ _ _ _ c.in_ok-check_sizes.ensures

pub clear-requires : goal.clear-requires
clear-requires c =
    let lent = sizes_lent _ _ _ _ c.in_ok-check_sizes.ensures in
    omega (arith, lent.room, c.gather-listed.ensures.rest.long)

pub returns : goal.returns
returns c =
    let p = promised_gathered _ _ _ _ _ _ _ _ _ _ c.in_ok-check_sizes.ensures c.gather-listed.ensures c.clear.ensures in
    record { outcome = p.0; demand1 = p.1.0; pairs = p.1.1 }
