-- `report::partner` meets its contract: no event before s conflicts with t and does not reach it. Assumes nothing.
use Prim.Native.Nat.{ℕ, ◌<◌}
use mathlib.Core.Path.{◌≡◌}
use mathlib.Core.Bool.{false}
use Rattle.report.specs.Reports.{partner_in}
use Rattle.report.proofs.partner.Given as goal

abbrev pub invariant-loop-s : goal.invariant-loop-s
invariant-loop-s l = (p : ℕ) → p < l.s → partner_in l.trace.kinds.now l.trace.operands.now l.ws l.t p ≡ false
