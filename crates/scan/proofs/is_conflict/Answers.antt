-- `scan::is_conflict` meets its contract. Assumes nothing.
use native.Mathlib.Omega.{arith}
use Prim.Native.Nat.{ℕ}
use mathlib.Core.Path.{◌≡◌}
use mathlib.Core.Bool.{true}
use mathlib.Core.Logic.{◌≢◌}
use Rattle.trace.specs.Trace.{READ, WRITE, SUM, is_access}
use Rattle.trace.proofs.Tests.{either}
use Rattle.trace.proofs.EventKinds.{test_access}
use Rattle.scan.proofs.is_conflict.Goals as goal

no_other : (k : ℕ) → is_access k ≡ true → k ≢ READ → k ≢ WRITE → k ≡ SUM
no_other k access d e = either ((test_access k).0 access) (λ is. absurd (d is)) (λ b. either b (λ is. absurd (e is)) (λ is. is))

pub returns-in_default : goal.returns-in_default
returns-in_default c =
    rw (no_other _ c.requires.kind_value (λ e. omega arith) (λ e. omega arith)) c.is_conflict-in_default.ensures
