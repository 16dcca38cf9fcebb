-- `ranks::rank` meets its contract. Assumes nothing.
use mathlib.Core.Path.{refl}
use native.Mathlib.Omega.{arith}
use Rattle.stops.proofs.Standing.{stops_in, stops_still}
use Rattle.cells.proofs.Rests.{sized_same}
use Rattle.ranks.proofs.Ranking.{stops_rest, events_within, listed, ranked, stops_stand}
use Rattle.ranks.proofs.rank.Goals as goal

pub list_segments-kept-requires : goal.list_segments-kept-requires
list_segments-kept-requires c =
    let collected = c.collect-stops.ensures in
    record { sized = sized_same c.requires collected.long; stops_in = stops_in _ collected }

pub leading-leading-requires : goal.leading-leading-requires
leading-leading-requires c =
    let says = c.list_segments-kept.ensures in
    let collected = c.collect-stops.ensures in
    record {
      some_stops = record { tasks = _; operands = _; stops = stops_still says.beyond (stops_in _ collected) };
      events_in_bounds = (events_within says, omega (arith, says.beyond.long, collected.long, c.requires.room));
    }

pub number-requires : goal.number-requires
number-requires c =
    let says = c.list_segments-kept.ensures in
    let collected = c.collect-stops.ensures in
    listed says (omega (arith, says.beyond.long, collected.long, c.requires.room))

pub returns : goal.returns
returns c =
    let says = c.list_segments-kept.ensures in
    let args = c.args in
    let rest = stops_rest c.collect-stops.ensures in
    let walk = c.number.ensures in
    record {
      rank_says = ranked args.trace.kinds.now args.trace.tasks.now args.trace.operands.now rest says c.requires.room refl walk;
      leading_le_events = c.leading-leading.ensures;
      stops_in =
          stops_stand args.trace.kinds.now args.trace.tasks.now args.trace.operands.now rest says c.requires.room refl walk
          (stops_in _ c.collect-stops.ensures);
    }
