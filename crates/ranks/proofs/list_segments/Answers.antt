-- `ranks::list_segments` meets its contract. Assumes nothing.
use mathlib.Core.Path.{refl, ap}
use native.Mathlib.Omega.{arith}
use Rattle.stops.proofs.Standing.{stop_inside}
use Rattle.ranks.specs.declared.Front.{Front}
use Rattle.ranks.proofs.Listing.{list_few, listing_begin, listing_stop, listing_finish, listing_broken}
use Rattle.ranks.proofs.Listing.{admit_broken, admit_movable, admit_named, admit_openable, admit_turn}
use Rattle.ranks.proofs.list_segments.Goals as goal

pub start-front-requires : goal.start-front-requires
start-front-requires c = let room = c.requires.sized.room in omega arith

pub loop-k-init : goal.loop-k-init
loop-k-init c = rw c.start-front.ensures.first (listing_begin _ _ c.start-front.ensures.begun)

pub position-i-requires : goal.position-i-requires
position-i-requires c =
    let long = c.loop-k.invariant.beyond.long in
    let first = c.start-front.ensures.begun.beyond.long in
    omega (arith, c.requires.sized.room, stop_inside c.requires.stops_in c.loop-k-test.true)

pub event-event-requires : goal.event-event-requires
event-event-requires c =
    let sized = c.requires.sized in
    let at = listing_stop c.start-front.ensures.begun.beyond c.requires.stops_in c.loop-k.invariant c.loop-k-test.true _ c.position-i.ensures in
    record { kind = at.inside; task = omega (arith, at.inside, sized.of_tasks); operand = omega (arith, at.inside, sized.of_operands) }

pub returns-in-Err : goal.returns-in-Err
returns-in-Err c =
    let at = listing_stop c.start-front.ensures.begun.beyond c.requires.stops_in c.loop-k.invariant c.loop-k-test.true _ c.position-i.ensures in
    listing_broken c.start-front.ensures.begun.beyond c.requires.stops_in c.loop-k.invariant at
    (admit_broken c.args.trace _ _ c.loop-k.front.line _ at.list_at _ c.event-event.ensures _ _ c.admit.ensures _ c.in-Err.is) _ refl

pub after-front-requires : goal.after-front-requires
after-front-requires c =
    let at = listing_stop c.start-front.ensures.begun.beyond c.requires.stops_in c.loop-k.invariant c.loop-k-test.true _ c.position-i.ensures in
    record {
      movable = admit_movable c.args.trace _ _ c.loop-k.front.line _ at.list_at _ c.event-event.ensures _ _ c.admit.ensures c.in_default.is;
      named = (list_few c.loop-k.invariant.list_at, admit_named c.args.trace _ _ c.loop-k.front.line _ at.list_at _ c.event-event.ensures _ _ c.admit.ensures c.in_default.is);
      openable = admit_openable c.args.trace _ _ c.loop-k.front.line _ at.list_at _ c.event-event.ensures _ _ c.admit.ensures c.in_default.is;
    }

pub loop-k-preserved : goal.loop-k-preserved
loop-k-preserved c =
    let at = listing_stop c.start-front.ensures.begun.beyond c.requires.stops_in c.loop-k.invariant c.loop-k-test.true _ c.position-i.ensures in
    admit_turn c.args.trace _ _ c.loop-k.front.line _ at.list_at _ c.event-event.ensures _ _ c.admit.ensures c.in_default.is
    c.start-front.ensures.begun.beyond c.requires.stops_in c.loop-k.invariant at _ c.after-front.ensures.cells_after _ _
    (ap (λ (f : Front). f.line) c.after-front.ensures.front_after) (ap (λ (f : Front). f.segment) c.after-front.ensures.front_after)

pub returns : goal.returns
returns c =
    listing_finish c.start-front.ensures.begun.beyond c.requires.stops_in c.loop-k.invariant c.loop-k-test.false
