-- `input::decide` meets its contract (`Deciding`). Assumes nothing.
use Rattle.input.proofs.Deciding.{decided_failed, decided_end, decided_again, decided_full}
use Rattle.input.proofs.decide.Goals as goal

pub returns-in_default : goal.returns-in_default
returns-in_default c = search decided_failed

pub returns-then-more-eq0 : goal.returns-then-more-eq0
returns-then-more-eq0 c = search decided_end

pub returns-then-total-room : goal.returns-then-total-room
returns-then-total-room c = search decided_again

pub returns : goal.returns
returns c = search decided_full
