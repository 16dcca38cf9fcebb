-- `sizes::check_buffers` meets its contract. Assumes nothing.
use Rattle.std.proofs.lemmas.Result.{err_from_is_err_and}
use Rattle.sizes.proofs.Sizing.{buffers_met}
use Rattle.sizes.proofs.check_buffers.Goals as goal

pub returns-in_err-check_sizes : goal.returns-in_err-check_sizes
returns-in_err-check_sizes c =
    let p = err_from_is_err_and c.from_residual.result c.from_residual.ensures.1 in
    rw (p.1, p.2) (buffers_met _ _ _ _ _ _ _ (c.in_err-check_sizes.ensures))
