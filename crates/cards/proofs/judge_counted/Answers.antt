-- `cards::judge_counted` meets its contract: row 16, or the judge's own answer, and after clean the tally (`Counting`). Assumes nothing.
use Rattle.cards.proofs.Counting.{counted_few, counted_other, counted_asks, counted_clean}
use Rattle.cards.proofs.judge_counted.Goals as goal

pub returns-then-has_few : goal.returns-then-has_few
returns-then-has_few c =
    let a = c.args in
    rw c.number.ensures
    (counted_few a.kinds.now a.tasks.now a.operands.now a.ws.now a.first.now a.second.now a.records _ c.has_few.ensures c.if-has_few.true)

pub tally-requires : goal.tally-requires
tally-requires c =
    let a = c.args in
    counted_asks a.kinds.now a.tasks.now a.operands.now a.ws.now a.first.now a.second.now a.records _ c.has_few.ensures c.if-has_few.false _ _ _ _ _ c.judge-code.ensures.outcome c.if-code-eq-CLEAN.true

pub returns-then-code-eq-CLEAN : goal.returns-then-code-eq-CLEAN
returns-then-code-eq-CLEAN c =
    let a = c.args in
    counted_clean a.kinds.now a.tasks.now a.operands.now a.ws.now a.first.now a.second.now a.records _ c.has_few.ensures c.if-has_few.false _ _ _ _ _ c.judge-code.ensures.outcome c.if-code-eq-CLEAN.true _
    c.tally.ensures

pub returns-else-code-eq-CLEAN : goal.returns-else-code-eq-CLEAN
returns-else-code-eq-CLEAN c =
    let a = c.args in
    counted_other a.kinds.now a.tasks.now a.operands.now a.ws.now a.first.now a.second.now a.records _ c.has_few.ensures c.if-has_few.false _ _ _ _ _ c.judge-code.ensures.outcome c.if-code-eq-CLEAN.false
