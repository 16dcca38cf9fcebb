-- `output::render` meets its contract: each `return` is a row of `rendered`. Assumes nothing.
use Rattle.std.proofs.Common.{◌≡◌, arith}
use Rattle.trace.specs.declared.Verdict.TheVariants.{Clean, Race}
use Rattle.output.proofs.Rendered.{render_short, render_clean, render_race, render_past, render_refused}
use Rattle.output.proofs.render.Goals as goal

pub returns-then-out-lt-OUTPUT_BYTES : goal.returns-then-out-lt-OUTPUT_BYTES
returns-then-out-lt-OUTPUT_BYTES c = search render_short

pub returns-then-t-ge-MAX_TEXT_EVENTS : goal.returns-then-t-ge-MAX_TEXT_EVENTS
returns-then-t-ge-MAX_TEXT_EVENTS c =
    let a = c.in-Ok-Race in
    let race : a.field-0 ≡ Race a.s a.t a.field-0-2 = rw a.is at a.field-0-is in
    render_past _ _ _ _ _ (omega arith) _ a.is _ _ _ race c.if-t-ge-MAX_TEXT_EVENTS.true

pub returns-in-Ok-Clean : goal.returns-in-Ok-Clean
returns-in-Ok-Clean c =
    let a = c.in-Ok-Clean in
    let clean : a.field-0 ≡ Clean a.field-0-0 = rw a.is at a.field-0-is in
    render_clean _ _ _ _ _ (omega arith) _ _ a.is _ clean c.put_clean.ensures

pub returns-else-t-ge-MAX_TEXT_EVENTS : goal.returns-else-t-ge-MAX_TEXT_EVENTS
returns-else-t-ge-MAX_TEXT_EVENTS c =
    let a = c.in-Ok-Race in
    let race : a.field-0 ≡ Race a.s a.t a.field-0-2 = rw a.is at a.field-0-is in
    render_race _ _ _ _ _ (omega arith) _ _ a.is _ _ _ race c.if-t-ge-MAX_TEXT_EVENTS.false c.put_race.ensures

pub returns-in-Err : goal.returns-in-Err
returns-in-Err c = search render_refused
