-- `report::partner` meets its contract: no event before s conflicts with t and does not reach it. Assumes nothing.
use mathlib.Core.Path.{sym, ◌∙◌}
use native.Mathlib.Omega.{arith}
use Rattle.report.proofs.partner.Goals as goal

pub returns-then-is_partner : goal.returns-then-is_partner
returns-then-is_partner c =
    record {
      earlier = omega arith;
      passed = sym c.is_partner.ensures ∙ c.if-is_partner.true;
      none_before = λ p h. c.loop-s.invariant p (omega arith);
    }
