-- `cards::has_few` meets its contract. Assumes nothing.
use borrow.Author.Tests.{le-ltb}
use Rattle.trace.specs.Trace.{LOCATIONS}
use Rattle.cards.proofs.Counting.{few_asked, few_enough}
use Rattle.cards.proofs.has_few.Goals as goal

pub returns-then-records-lt-LOCATIONS : goal.returns-then-records-lt-LOCATIONS
returns-then-records-lt-LOCATIONS c =
    let a = c.args in
    rw c.is_ok.ensures.value
    (few_asked a.trace.kinds.now a.trace.tasks.now a.trace.operands.now a.ws.now a.first.now a.second.now a.records _ c.check_buffers.ensures
    c.if-records-lt-LOCATIONS.true)

pub returns-else-records-lt-LOCATIONS : goal.returns-else-records-lt-LOCATIONS
returns-else-records-lt-LOCATIONS c =
    let a = c.args in
    let enough = c.if-records-lt-LOCATIONS.false in
    rw (le-ltb a.records LOCATIONS enough)
    (few_enough a.trace.kinds.now a.trace.tasks.now a.trace.operands.now a.ws.now a.first.now a.second.now a.records enough)
