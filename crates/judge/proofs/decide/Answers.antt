-- `judge::decide` meets its contract. Assumes nothing.
use native.Mathlib.Omega.{arith}
use Rattle.trace.specs.Answers.{judge_reply, judge_links}
use Rattle.scan.proofs.Racing.{numbered_ranked}
use Rattle.judge.proofs.Deciding.{links_at, chains_asked, race_partnered, decided_race, decided_refused, decided_clean}
use Rattle.judge.proofs.decide.Goals as goal

pub first_race-racing-requires : goal.first_race-racing-requires
first_race-racing-requires c = numbered_ranked c.requires.sized c.rank-ranked.ensures.rank_says c.rank-ranked.ensures.leading_le_events

pub longest-links-requires-clause-events_in_bounds : goal.longest-links-requires-clause-events_in_bounds
longest-links-requires-clause-events_in_bounds c =
    let found = c.first_race-racing.ensures in
    rw c.unwrap_or-passed.ensures (chains_asked c.requires.sized c.rank-ranked.ensures.rank_says found.first_race found.same_from c.rank-ranked.ensures.stops_in).1.1

pub report-s-requires-clause-partnered : goal.report-s-requires-clause-partnered
report-s-requires-clause-partnered c =
    let found = c.in-Some.ensures in
    let links = links_at (rw c.in-Some.is at c.unwrap_or-passed.ensures) c.longest-links.ensures in
    race_partnered c.requires.sized c.rank-ranked.ensures.rank_says found.first_race found.same_from links found.inside c.spread.ensures

pub returns-in-Some : goal.returns-in-Some
unfolding judge_reply judge_links
returns-in-Some c =
    let found = c.in-Some.ensures in
    let links = links_at (rw c.in-Some.is at c.unwrap_or-passed.ensures) c.longest-links.ensures in
    decided_race c.requires.sized c.rank-ranked.ensures.rank_says found.first_race found.same_from links found.inside c.spread.ensures
    c.report-s.result c.report-s.ensures

pub returns-in-Some-broken : goal.returns-in-Some-broken
unfolding judge_reply judge_links
returns-in-Some-broken c =
    let found = c.in_default.ensures in
    let links = links_at (rw c.in_default.is at c.unwrap_or-passed.ensures) c.longest-links.ensures in
    rw c.at.ensures (decided_refused c.requires.sized c.rank-ranked.ensures.rank_says found.first_race found.same_from links _ _ (omega arith) _ c.in-Some-broken.is)

pub returns-in-None : goal.returns-in-None
unfolding judge_reply judge_links
returns-in-None c =
    let found = c.in_default.ensures in
    let links = links_at (rw c.in_default.is at c.unwrap_or-passed.ensures) c.longest-links.ensures in
    decided_clean c.requires.sized c.rank-ranked.ensures.rank_says found.first_race found.same_from links _ _ (omega arith) c.in-None.is
