-- `capi::put_cards` meets its contract: before each turn the first l of the records to be filled are cards. Assumes nothing.
use Rattle.std.proofs.Common.{◌≡◌}
use Rattle.cards.specs.Cards.{with_cards}
use Rattle.cards.specs.Tally.{card_in}
use Rattle.capi.proofs.put_cards.Given as goal

abbrev pub invariant-loop-l : goal.invariant-loop-l
invariant-loop-l l = l.card-items ≡ with_cards (card_in l.ws) l.l l.initial.card-items
