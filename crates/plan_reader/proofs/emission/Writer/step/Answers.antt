-- `step` meets its contract: at each byte it goes the machine's step (`Stepping`). Assumes nothing.
use Rattle.std.proofs.Common.{refl, ap, ◌∙◌, Some}
use Rattle.plan.specs.declared.Letter.{Letter}
use Rattle.plan_reader.proofs.Stepping.{enter_after, turn_after, close_after}
use Rattle.plan_reader.proofs.emission.Writer.step.Goals as goal

pub returns-in-Some-Joint-clause-moves : goal.returns-in-Some-Joint-clause-moves
returns-in-Some-Joint-clause-moves c =
    let joint = rw c.in-Some-Joint.is at c.in-Some-Joint.field-0-is in
    enter_after _ _ _ c.requires.stands c.requires.goes _ c.letter_of-letter.ensures c.in-Some-Joint.operator
    (c.in-Some-Joint.is ∙ ap (λ (x : Letter). Some x) joint) _ refl _ c.enter.ensures.frames _ c.enter.ensures.moves

pub returns-then-byte-eq44-clause-moves : goal.returns-then-byte-eq44-clause-moves
returns-then-byte-eq44-clause-moves c =
    turn_after _ _ _ c.requires.stands c.requires.goes _ c.letter_of-letter.ensures c.in-None.is c.if-byte-eq44.true _ c.turn.ensures

pub returns-else-byte-eq44-clause-moves : goal.returns-else-byte-eq44-clause-moves
returns-else-byte-eq44-clause-moves c =
    close_after _ _ _ c.requires.stands c.requires.goes _ c.letter_of-letter.ensures c.in-None.is c.if-byte-eq44.false _ c.close.ensures
