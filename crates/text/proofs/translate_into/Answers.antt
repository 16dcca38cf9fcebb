-- `text::translate_into` meets its contract: the loop takes line after line (`Translating`). Assumes nothing.
use Rattle.text.proofs.Translating.{translating_begins, translating_ends, translating_no_line, translating_long}
use Rattle.text.proofs.Translating.{translating_more, translating_less}
use Rattle.text.proofs.translate_into.Goals as goal

pub loop-cursor-init : goal.loop-cursor-init
loop-cursor-init c = rw c.new-cursor.ensures (translating_begins _ _ _ c.new-stack.ensures.0 c.new-stack.ensures.1)

pub returns-in_default : goal.returns-in_default
returns-in_default c =
    rw c.at.ensures (translating_no_line _ _ _ _ _ _ _ c.loop-cursor.invariant c.loop-cursor-test.ensures c.in_default.ensures)

pub returns-in_default-add_line : goal.returns-in_default-add_line
returns-in_default-add_line c =
    rw c.at-in_default-add_line.ensures
    (translating_long _ _ _ _ _ _ _ c.loop-cursor.invariant _ _ c.in-Some.ensures c.in_default-add_line.ensures)

pub loop-cursor-smaller : goal.loop-cursor-smaller
loop-cursor-smaller c = translating_less _ _ _ _ _ _ _ c.loop-cursor.invariant _ _ c.in-Some.ensures

pub loop-cursor-preserved : goal.loop-cursor-preserved
loop-cursor-preserved c =
    translating_more _ _ _ _ _ _ _ c.loop-cursor.invariant _ _ c.in-Some.ensures _ _ _ c.in-Some-add_line.ensures

pub returns : goal.returns
returns c = translating_ends _ _ _ _ _ _ _ c.loop-cursor.invariant c.loop-cursor-test.ensures
