-- What the conversion is to set at each event. Assumes nothing.
use Prim.Native.Nat.{ℕ, ◌<◌, ◌≤◌}
use mathlib.Core.Path.{◌≡◌, refl}
use mathlib.Core.Bool.{and-false}
use mathlib.Core.Logic.{◌≢◌}
use lib.Dec.{ltb}
use borrow.Author.Tests.{eq-eqb, ne_eqb, lt-ltb, le-ltb}
use Rattle.trace.specs.Trace.{Trace, HALT}
use Rattle.trace.specs.Line.{Line, passes, halt_operand, halt_operand_before, line_after}
use Rattle.convert.specs.Conversion.{named_after, operand_at, first_break}

module _ (tr : Trace) (n : ℕ) where
  abbrev stop : ℕ
  stop = first_break tr n

  -- A halt before the first event that breaks a rule names the task that resumes;
  pub set_at : (p : ℕ) (line : Line) → p < stop → tr.kind p ≡ HALT → line_after halt_operand_before tr p ≡ passes line → operand_at tr stop p ≡ halt_operand line
  unfolding operand_at named_after
  set_at p line h k e = rw (lt-ltb p stop h, eq-eqb (tr.kind p) HALT k, e) refl

  -- no other event changes,
  pub other_at : (p : ℕ) → tr.kind p ≢ HALT → operand_at tr stop p ≡ tr.operand p
  unfolding operand_at
  other_at p k = rw (ne_eqb (tr.kind p) HALT k, and-false (ltb p stop)) refl

  -- and none from there on.
  pub later_at : (p : ℕ) → stop ≤ p → operand_at tr stop p ≡ tr.operand p
  unfolding operand_at
  later_at p h = rw (le-ltb p stop h) refl
