-- `convert::convert` meets its contract. Assumes nothing.
use mathlib.Core.Path.{refl, ap, ◌∙◌}
use native.Mathlib.Omega.{arith}
use lib.ListN.{length}
use Rattle.std.proofs.lemmas.Result.{err_from_is_err_and}
use Rattle.cells.proofs.Zeroed.{zeroed_length}
use Rattle.sizes.proofs.Sizing.{sizes_lent}
use Rattle.convert.proofs.Promising.{promised_sizes, promised_set}
use Rattle.convert.proofs.convert.Goals as goal

pub returns-in_err-check_sizes : goal.returns-in_err-check_sizes
returns-in_err-check_sizes c =
    let q = err_from_is_err_and c.from_residual.result c.from_residual.ensures.1 in
    let p = promised_sizes _ _ _ _ _ _ _ c.in_err-check_sizes.ensures refl refl in
    rw (q.1, q.2) (record { outcome = p.0; demand1 = p.1.0; halts = p.1.1.0; verdict = p.1.1.1 })

pub set_halts-requires : goal.set_halts-requires
set_halts-requires c = sizes_lent _ _ _ _ c.in_ok-check_sizes.ensures

pub clear-requires : goal.clear-requires
clear-requires c =
    let lent = sizes_lent _ _ _ _ c.in_ok-check_sizes.ensures in
    let set = c.set_halts.ensures in
    omega (arith, lent.room, set.beyond.long)

pub shape_of-ws : goal.shape_of-ws
shape_of-ws c =
    let lent = sizes_lent _ _ _ _ c.in_ok-check_sizes.ensures in
    let long = c.set_halts.ensures.beyond.long in
    ap length c.clear.ensures ∙ (zeroed_length _ _ (let room = lent.room in omega arith) ∙ long)

pub returns : goal.returns
returns c =
    let p = promised_set _ _ _ _ _ _ _ c.in_ok-check_sizes.ensures c.set_halts.ensures c.clear.ensures in
    record { outcome = p.0; demand1 = p.1.0; halts = p.1.1.0; verdict = p.1.1.1 }
