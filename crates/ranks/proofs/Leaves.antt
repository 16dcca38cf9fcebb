-- Laws of the leaves' cases, premises spelt as the code's tests and its callees' contracts are. Assumes nothing.
use Prim.Native.Nat.{ℕ, suc, ◌+◌, ◌≤◌}
use mathlib.Core.Path.{◌≡◌}
use mathlib.Core.Bool.{Bool, true, false, cond, not}
use native.Mathlib.Omega.{arith}
use mir.Val.{bool_byte}
use Rattle.trace.specs.Trace.{is_access}

pub bit_few : (b : Bool) → bool_byte b ≤ 1
bit_few true = omega arith
bit_few false = omega arith

-- One segment more behind a move.
pub next_open : (kind g : ℕ) (b : Bool) → b ≡ not (is_access kind) → g + bool_byte b ≡ cond (is_access kind) g (suc g)
next_open kind g b e = rw e (by_case (is_access kind))
  where
    by_case : (b : Bool) → g + bool_byte (not b) ≡ cond b g (suc g)
    by_case true = omega arith
    by_case false = omega arith

-- The cases of a test.
pub case_met : {A : Type 0} (b : Bool) (x y z : A) → b ≡ true → x ≡ y → x ≡ cond b y z
case_met b x y z e f = rw e f

pub case_passed : {A : Type 0} (b : Bool) (x y z : A) → b ≡ false → x ≡ z → x ≡ cond b y z
case_passed b x y z e f = rw e f
