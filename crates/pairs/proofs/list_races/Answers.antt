-- `pairs::list_races` meets its contract. Assumes nothing.
use mathlib.Core.Path.{ap, ◌∙◌}
use mathlib.Core.Bool.{not}
use Rattle.trace.specs.Answers.{reply}
use Rattle.pairs.proofs.Gathering.{none_past, list_none, spread_asks, spread_ready, list_spread}
use Rattle.pairs.proofs.list_races.Goals as goal

pub returns-then-is_none : goal.returns-then-is_none
unfolding reply
returns-then-is_none c =
    list_none c.requires c.first_race.ensures.first_race c.first_race.ensures.same_from _ (none_past _ _ (c.is_none.ensures ∙ ap not c.if-is_none.true))

pub spread-requires : goal.spread-requires
spread-requires c =
    let asks = spread_asks c.requires c.first_race.ensures.first_race c.first_race.ensures.same_from in
    record { segments_in = asks.0; events_in_bounds = asks.1 }

pub write_list-requires : goal.write_list-requires
write_list-requires c =
    spread_ready c.requires c.first_race.ensures.first_race c.first_race.ensures.same_from c.spread.ensures

pub returns : goal.returns
returns c =
    list_spread c.requires c.first_race.ensures.first_race c.first_race.ensures.same_from c.spread.ensures c.write_list.ensures
