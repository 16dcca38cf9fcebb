-- `pairs::take_partners` meets its contract. Assumes nothing.
use Prim.Native.Nat.{ℕ}
use mathlib.Core.Path.{◌≡◌, refl}
use mathlib.Core.Bool.{true, false}
use denote.Param.{number}
use borrow.Author.Tests.{ne_eqb}
use Rattle.pairs.proofs.Taking.{window_readable, taken_none, window_writable, later_writable, taken_counted, taken_written}
use Rattle.pairs.specs.contracts.take_partners.{WRITTEN-type}
use Rattle.pairs.proofs.take_partners.Goals as goal

-- What the parameter is, where the code has it as a number.
wanted : (w : ℕ) → (w ≡ 0 → ⊥) → WRITTEN-type (number w) ≡ true
wanted w some = rw (ne_eqb w 0 some) refl

unwanted : (w : ℕ) → w ≡ 0 → WRITTEN-type (number w) ≡ false
unwanted w none = rw none refl

pub returns-then-to-from : goal.returns-then-to-from
returns-then-to-from g c =
    taken_none c.requires.visitable c.requires.t_value _ c.access_at-access.ensures _ _ c.window_start-from.ensures c.cell-to.ensures c.if-to-from.true

pub mark_partners-requires : goal.mark_partners-requires
mark_partners-requires g c =
    let window =
    window_readable c.requires.visitable c.requires.t_value _ c.access_at-access.ensures _ _ c.window_start-from.ensures c.cell-to.ensures in
    (window.0, window.1, refl)

pub write_earlier-requires : goal.write_earlier-requires
write_earlier-requires g c =
    window_writable c.requires.visitable c.requires.t_value _ c.access_at-access.ensures _ _ c.window_start-from.ensures c.cell-to.ensures _ _ _
    c.mark_partners.ensures refl (wanted _ c.if-this-ne0.true)

pub write_later-requires : goal.write_later-requires
write_later-requires g c =
    later_writable c.requires.visitable c.requires.t_value _ c.access_at-access.ensures _ _ c.window_start-from.ensures c.cell-to.ensures _ _ _
    c.mark_partners.ensures refl (wanted _ c.if-this-ne0.true)

pub returns-then-this-ne0 : goal.returns-then-this-ne0
returns-then-this-ne0 g c =
    taken_written c.requires.visitable c.requires.t_value _ c.access_at-access.ensures _ _ c.window_start-from.ensures c.cell-to.ensures _ _ _
    c.mark_partners.ensures refl _ _ (wanted _ c.if-this-ne0.true) c.write_earlier.ensures c.write_later.ensures

pub returns-else-this-ne0 : goal.returns-else-this-ne0
returns-else-this-ne0 g c =
    taken_counted c.requires.visitable c.requires.t_value _ c.access_at-access.ensures _ _ c.window_start-from.ensures c.cell-to.ensures _ _ _
    c.mark_partners.ensures refl (unwanted _ c.if-this-ne0.false)
