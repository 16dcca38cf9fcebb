-- `ranks::leading` meets its contract. Assumes nothing.
use mathlib.Core.Path.{sym, ◌∙◌}
use native.Mathlib.Omega.{arith}
use Rattle.stops.proofs.Standing.{stop_inside}
use Rattle.ranks.proofs.Passing.{leading_all, leading_second, leading_less}
use Rattle.ranks.proofs.leading.Goals as goal

pub returns-then-count-lt2 : goal.returns-then-count-lt2
returns-then-count-lt2 c =
    let access = sym c.is_access.ensures ∙ c.if-not-is_access.false in
    (omega arith, leading_all c.requires.some_stops c.requires.events_in_bounds.0 c.if-events-eq0.false access c.if-count-lt2.true)

pub returns : goal.returns
returns c =
    let access = sym c.is_access.ensures ∙ c.if-not-is_access.false in (
      c.if-events-second.false,
      leading_second c.requires.some_stops c.requires.events_in_bounds.0 c.if-events-eq0.false access c.if-count-lt2.false _
          c.position-second.ensures,
    )

pub returns-then-events-second : goal.returns-then-events-second
returns-then-events-second c =
    let access = sym c.is_access.ensures ∙ c.if-not-is_access.false in (
      omega arith,
      leading_less c.requires.some_stops c.requires.events_in_bounds.0 c.if-events-eq0.false access c.if-count-lt2.false _
          c.position-second.ensures c.if-events-second.true,
    )

pub position-second-requires : goal.position-second-requires
position-second-requires c =
    omega (arith, c.requires.events_in_bounds.1, stop_inside c.requires.some_stops.stops c.if-count-lt2.false)

pub returns-then-events-eq0 : goal.returns-then-events-eq0
returns-then-events-eq0 c = (omega arith, λ p h. absurd (omega arith))

pub returns-then-not-is_access : goal.returns-then-not-is_access
returns-then-not-is_access c = (omega arith, λ p h. absurd (omega arith))
