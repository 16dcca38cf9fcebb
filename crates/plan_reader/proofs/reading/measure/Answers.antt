-- `measure` meets its contract: each `return` is a row of `whole`. Assumes nothing.
use Rattle.std.proofs.lemmas.Result.{err_from_is_err_and}
use Rattle.plan_reader.proofs.Rows.{measure_stops, measure_more, measure_whole}
use Rattle.plan_reader.proofs.reading.measure.Goals as goal

pub returns-in_err-plan : goal.returns-in_err-plan
returns-in_err-plan c = let p = err_from_is_err_and c.from_residual.result c.from_residual.ensures.1 in rw (p.1, p.2) (measure_stops _ _ _ c.in_err-plan.ensures)

pub returns-then-plan-text : goal.returns-then-plan-text
returns-then-plan-text c = rw c.at.ensures (measure_more _ _ _ _ c.in_ok-plan.ensures c.if-plan-text.true)

pub returns : goal.returns
returns c = measure_whole _ _ _ _ c.in_ok-plan.ensures c.if-plan-text.false
