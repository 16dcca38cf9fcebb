-- `pairs::visit` meets its contract. Assumes nothing.
use mathlib.Core.Path.{sym, ◌∙◌}
use mathlib.Core.Logic.{inl, inr}
use Rattle.pairs.proofs.Visiting.{visit_move, visit_testable, kept_visitable, visit_access}
use Rattle.pairs.proofs.visit.Goals as goal
use Rattle.pairs.proofs.visit.Goals.{then-races, else-races}

pub returns-then-not-is_access : goal.returns-then-not-is_access
returns-then-not-is_access g c = visit_move c.requires (sym c.is_access.ensures ∙ c.if-not-is_access.true)

pub races-requires : goal.races-requires
races-requires g c =
    visit_testable c.requires (sym c.is_access.ensures ∙ c.if-not-is_access.false)

pub take_partners-next-requires : goal.take_partners-next-requires
take_partners-next-requires g c =
    let access = sym c.is_access.ensures ∙ c.if-not-is_access.false in
    record { visitable = kept_visitable c.requires access c.races.new.ws c.races.result (rw c.number.ensures at c.races.ensures); t_value = access }

pub returns : goal.returns
returns g c =
    let access = sym c.is_access.ensures ∙ c.if-not-is_access.false in
    visit_access c.requires access c.races.new.ws c.races.result (rw c.number.ensures at c.races.ensures) _ _ _ c.put.ensures
    (elim c.if-races.branch [
      | then-races w ↦ inl (w.if-races.true, rw (w.earlier-is, w.later-is, w.next-is) w.take_partners-next.ensures)
      | else-races w ↦ inr (w.if-races.false, (w.next-is, cc (w.earlier-is, w.later-is)))
    ])
