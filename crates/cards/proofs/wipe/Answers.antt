-- `cards::wipe` meets its contract. Assumes nothing.
use Rattle.cards.proofs.Leaves.{wipe_none, wipe_all, wipe_room}
use Rattle.cards.proofs.wipe.Goals as goal

pub clear-requires : goal.clear-requires
clear-requires c = search wipe_room

pub returns-then-k-ne0 : goal.returns-then-k-ne0
returns-then-k-ne0 c = search wipe_all

pub returns-else-k-ne0 : goal.returns-else-k-ne0
returns-else-k-ne0 c = search wipe_none
