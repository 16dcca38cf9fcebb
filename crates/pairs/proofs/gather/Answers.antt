-- `pairs::gather` meets its contract. Assumes nothing.
use mathlib.Core.Path.{refl}
use Rattle.trace.specs.Answers.{reply}
use Rattle.pairs.proofs.Gathering.{gather_broken, gather_listable, gather_list}
use Rattle.pairs.proofs.gather.Goals as goal

pub returns-in-Some : goal.returns-in-Some
unfolding reply
returns-in-Some c =
    gather_broken c.requires c.rank-ranked.ensures.rank_says _ _ _ c.in-Some.is (rw c.at.ensures refl)

pub list_races-requires : goal.list_races-requires
list_races-requires c =
    gather_listable c.requires c.rank-ranked.ensures.rank_says c.in-None.is c.rank-ranked.ensures.leading_le_events

pub returns-in-None : goal.returns-in-None
returns-in-None c =
    gather_list c.requires c.rank-ranked.ensures.rank_says c.in-None.is c.list_races.ensures
