-- `chains::take` meets its contract. Assumes nothing.
use Rattle.trace.specs.Trace.{trace_of}
use Rattle.chains.proofs.Building.{taken_other, take_joins, taken_joined}
use Rattle.chains.proofs.take.Goals as goal

pub join-requires : goal.join-requires
unfolding trace_of
join-requires c =
    let event = c.event-event.ensures in
    let join = rw event at c.if-event-eq-JOIN.true in
    rw event (take_joins c.requires.joins_at c.requires.keeps_rules join)

pub returns-then-event-eq-JOIN : goal.returns-then-event-eq-JOIN
unfolding trace_of
returns-then-event-eq-JOIN c =
    let event = c.event-event.ensures in
    let join = rw event at c.if-event-eq-JOIN.true in
    let joined = rw event at c.join.ensures in
    taken_joined c.requires.joins_at c.requires.keeps_rules join joined

pub returns-else-event-eq-JOIN : goal.returns-else-event-eq-JOIN
unfolding trace_of
returns-else-event-eq-JOIN c =
    let other = rw c.event-event.ensures at c.if-event-eq-JOIN.false in
    taken_other c.requires.joins_at c.requires.keeps_rules other
