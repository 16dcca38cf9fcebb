-- `cards::tally` meets its contract: before each turn the tables hold the tally of the first i events (`Tallying`). Assumes nothing.
use mathlib.Core.Path.{◌≡◌, sym, ◌∙◌}
use native.Mathlib.Omega.{arith}
use borrow.Author.Rules.{rules}
use lib.ListN.{length}
use Rattle.cards.proofs.Tallying.{tally_none, tally_asks, tally_access, tally_other}
use Rattle.cards.proofs.tally.Goals as goal
use Rattle.cards.proofs.tally.Goals.{then-is_access, else-is_access}

pub loop-i-init : goal.loop-i-init
loop-i-init c = tally_none _ _ _ c.requires

pub overflow_cast-i : goal.overflow_cast-i
overflow_cast-i c = let few = c.requires.few in search rules

pub touch-requires : goal.touch-requires
touch-requires c =
    tally_asks _ _ _ c.requires _ _ c.loop-i.invariant (omega arith) (sym c.is_access.ensures ∙ c.if-is_access.true)

pub loop-i-preserved : goal.loop-i-preserved
loop-i-preserved c =
    elim c.if-is_access.branch [
      | then-is_access w ↦
          rw w.ws-is
          (tally_access _ _ _ c.requires _ _ c.loop-i.invariant (omega arith) (sym c.is_access.ensures ∙ w.if-is_access.true) _ w.touch.ensures)
      | else-is_access w ↦
          rw w.ws-is (tally_other _ _ _ c.requires _ _ c.loop-i.invariant (omega arith) (sym c.is_access.ensures ∙ w.if-is_access.false))
    ]

pub returns : goal.returns
returns c =
    let here : c.loop-i.i ≡ length c.args.kinds.now = omega arith in
    rw (← here) c.loop-i.invariant
