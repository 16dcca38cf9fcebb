-- `chains::build` meets its contract. Assumes nothing.
use native.Mathlib.Omega.{arith}
use Rattle.cells.proofs.Rests.{same_from_refl}
use Rattle.stops.proofs.Standing.{stop_inside}
use Rattle.chains.proofs.Building.{build_begin, build_stop, build_finish, build_end, build_turn, kept_earlier}
use Rattle.chains.proofs.build.Goals as goal

pub loop-k-init : goal.loop-k-init
loop-k-init c =
    let room = c.requires.sized.room in
    build_begin _ _ (omega arith) c.clear.ensures _ _

pub position-i-requires : goal.position-i-requires
position-i-requires c =
    let room = c.requires.sized.room in
    omega (arith, c.loop-k.invariant.rest.long, stop_inside c.requires.stops_in c.loop-k-test.true)

pub returns-then-events-i : goal.returns-then-events-i
returns-then-events-i c =
    let stop = build_stop c.loop-k.invariant c.requires.stops_in c.loop-k-test.true _ c.position-i.ensures in
    build_finish c.loop-k.invariant c.requires.events_in_bounds.1 (stop.joins_end c.if-events-i.true)

pub take-requires : goal.take-requires
take-requires c =
    let sized = c.requires.sized in
    let stop = build_stop c.loop-k.invariant c.requires.stops_in c.loop-k-test.true _ c.position-i.ensures in
    let inside = stop.inside in
    let below = c.if-events-i.false in
    record {
      i_in_bounds = record { kind = inside; task = omega (arith, sized.of_tasks); operand = omega (arith, sized.of_operands) };
      keeps_rules = kept_earlier _ c.requires.events_in_bounds.1 (omega arith);
      joins_at = stop.joins_at;
    }

pub loop-k-preserved : goal.loop-k-preserved
loop-k-preserved c =
    let stop = build_stop c.loop-k.invariant c.requires.stops_in c.loop-k-test.true _ c.position-i.ensures in
    let below = c.if-events-i.false in
    build_turn c.loop-k.invariant stop (omega arith) c.take.ensures

pub returns : goal.returns
returns c =
    let span = c.requires.events_in_bounds in build_end c.loop-k.invariant (same_from_refl _ _) c.requires.stops_in span.0 span.1 c.loop-k-test.false
