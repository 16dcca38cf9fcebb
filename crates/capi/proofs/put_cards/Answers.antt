-- `capi::put_cards` meets its contract: a turn stores the next card (`Records` of `cards`), and the records past the cards stay (`Filled`). Assumes nothing.
use mathlib.Core.Path.{◌≡◌, sym}
use lib.ListN.{length-take}
use Rattle.cards.specs.declared.Card.{Card}
use native.Mathlib.Omega.{arith}
use native.Mathlib.Numerals.{add-one}
use Rattle.cards.specs.Tally.{card_in}
use Rattle.cards.proofs.Records.{with_none, with_more}
use Rattle.capi.proofs.Filled.{filled}
use Rattle.capi.proofs.put_cards.Goals as goal

pub loop-l-init : goal.loop-l-init
loop-l-init c = sym (with_none (card_in c.args.ws.now) _)

pub loop-l-preserved : goal.loop-l-preserved
loop-l-preserved c =
    rw (c.loop-l.invariant, c.card_of.ensures, add-one c.loop-l.l) (with_more (card_in c.args.ws.now) c.loop-l.l _ c.loop-l-test.true)

pub returns : goal.returns
returns c =
    let room = c.requires.0 in
    let all : c.loop-l.l ≡ c.args.k = omega (arith, length-take {A = Card}, c.loop-l.auto.l-end, c.loop-l-test.false) in
    rw (c.loop-l.invariant, all) (filled (card_in c.args.ws.now) c.args.k c.args.cards.now)
