-- `pairs::write_list` meets its contract. Assumes nothing.
use mathlib.Core.Path.{refl}
use Rattle.trace.specs.Answers.{reply}
use Rattle.pairs.proofs.Passing.{ready_same}
use Rattle.pairs.proofs.Gathering.{fits_counting, fits_writing, list_empty, list_short, list_written}
use Rattle.pairs.proofs.write_list.Goals as goal

pub pass-count-requires : goal.pass-count-requires
pass-count-requires c = record { ready = c.requires; fits = fits_counting _ _ }

pub returns-then-count-eq0 : goal.returns-then-count-eq0
unfolding reply
returns-then-count-eq0 c = list_empty c.pass-count.ensures c.if-count-eq0.true

pub returns-then-is_short : goal.returns-then-is_short
unfolding reply
returns-then-is_short c =
    list_short c.pass-count.ensures _ c.is_short.ensures _ c.if-is_short.true (rw c.at.ensures refl)

pub pass-requires : goal.pass-requires
pass-requires c =
    record { ready = ready_same c.pass-count.ensures.beyond c.requires; fits = fits_writing c.pass-count.ensures _ c.is_short.ensures c.if-is_short.false }

pub returns : goal.returns
unfolding reply
returns c =
    list_written c.pass-count.ensures _ c.is_short.ensures c.if-is_short.false c.pass.ensures
