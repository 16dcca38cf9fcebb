-- `told_texts::translation::translate` meets its contract: a refusal leaves the slices as they were, and else they get the events (`Translations`).
-- Assumes nothing.
use native.Mathlib.Omega.{arith}
use mathlib.Core.Path.{refl}
use Rattle.std.proofs.lemmas.Result.{err_from_is_err_and}
use Rattle.text.proofs.Stored.{fresh_sized, stored, said_refusal}
use Rattle.told_texts.proofs.Translations.{refused_kept, copied_translated, lent_room}
use Rattle.told_texts.proofs.translation.translate.Goals as goal

pub returns-in_err-count : goal.returns-in_err-count
returns-in_err-count c =
    let p = err_from_is_err_and c.from_residual.result c.from_residual.ensures.1 in
    let refused = said_refusal _ _ fresh_sized _ _ _ _ c.in_err-count.ensures.outcome _ refl in
    rw (p.1, p.2) (refused_kept _ _ _ refused)

pub copy_events-requires : goal.copy_events-requires
copy_events-requires c =
    let held = stored _ _ fresh_sized _ _ _ _ c.in_ok-count.ensures.outcome _ refl in
    let room = held.room in
    record {
      room = record { kinds = omega arith; tasks = omega arith; operands = omega arith };
      room_2 = lent_room _ c.requires held;
    }

pub returns : goal.returns
returns c =
    let held = stored _ _ fresh_sized _ _ _ _ c.in_ok-count.ensures.outcome _ refl in
    copied_translated _ _ c.requires held c.copy_events.ensures
