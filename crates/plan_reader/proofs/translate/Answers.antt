-- `translate` meets its contract: each `return` gives the outcome that is asked for (`Planning`), and that has its meaning. Assumes nothing.
use Rattle.std.proofs.lemmas.Result.{err_from_is_err_and}
use Rattle.plan_reader.proofs.Planning.{with_meaning, plan_refused, plan_short, plan_ready, plan_done}
use Rattle.plan_reader.proofs.translate.Goals as goal

pub returns-in_err-size : goal.returns-in_err-size
returns-in_err-size c =
    let m = with_meaning (plan_refused _ _ _ c.in_err-size.ensures) in
    let p = err_from_is_err_and c.from_residual.result c.from_residual.ensures.1 in
    rw (p.1, p.2) (record { outcome = m.0; grammar = m.1.0; trace = m.1.1 })

pub returns-then-too_large : goal.returns-then-too_large
returns-then-too_large c =
    let m = with_meaning (plan_short _ _ _ _ c.in_ok-size.ensures _ c.too_large.ensures c.if-too_large.true) in
    rw c.into.ensures (record { outcome = m.0; grammar = m.1.0; trace = m.1.1 })

pub emit-requires : goal.emit-requires
emit-requires c = plan_ready _ _ _ _ c.in_ok-size.ensures _ c.too_large.ensures c.if-too_large.false

pub returns : goal.returns
returns c =
    let m = with_meaning (plan_done _ _ _ _ c.in_ok-size.ensures _ c.too_large.ensures c.if-too_large.false _ c.emit.ensures) in
    record { outcome = m.0; grammar = m.1.0; trace = m.1.1 }
