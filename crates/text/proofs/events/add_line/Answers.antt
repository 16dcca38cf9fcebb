-- `text::events::add_line` meets its contract: each `return` is a row of `added`. Assumes nothing.
use Rattle.text.proofs.LineEvents.{added_full, added_more}
use Rattle.text.proofs.events.add_line.Goals as goal

pub returns-then-own-ge-MAX_TEXT_EVENTS : goal.returns-then-own-ge-MAX_TEXT_EVENTS
returns-then-own-ge-MAX_TEXT_EVENTS c = search added_full

pub returns : goal.returns
returns c = search added_more
