-- `pairs::begin` meets its contract. Assumes nothing.
use native.Mathlib.Omega.{arith}
use borrow.Author.Rules.{rules}
use Rattle.pairs.proofs.Passing.{begun}
use Rattle.pairs.proofs.begin.Goals as goal

pub overflow_cast-first : goal.overflow_cast-first
overflow_cast-first c =
    let within = c.first_race.ensures.first_race.within in
    let few = c.requires.listable.few in
    rw c.unwrap_or-first.ensures (search rules)

pub forget-requires : goal.forget-requires
forget-requires c = omega (arith, c.first_race.ensures.same_from.long, c.requires.listable.room)

pub returns : goal.returns
returns c =
    let it = c.unwrap_or-first.ensures in
    begun _ _ c.unwrap_or-first.result (rw it c.first_race.ensures.first_race) c.first_race.ensures.same_from (rw it c.first_race.ensures.tables) c.forget.ensures
