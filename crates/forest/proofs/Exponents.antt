-- A power of 2 that is at most 1,024 has an exponent of at most 10. Assumes nothing.
use Prim.Native.Nat.{ℕ, ◌≤◌, ◌^◌}
use native.Mathlib.Omega.{arith}
use native.Mathlib.Nat.{pow-le-pow_right}
use Rattle.trace.specs.Trace.{TASKS}
use Rattle.trace.specs.Joins.{MAX_LINKS}
use Rattle.trace.proofs.Tests.{either, lt_or_le}

pub exponent_few : (k : ℕ) → 2 ^ k ≤ TASKS → k ≤ MAX_LINKS
exponent_few k h =
    either (lt_or_le MAX_LINKS k)
    (λ l. absurd (let g : 2 ^ 11 ≤ 2 ^ k = pow-le-pow_right {n = 2} (omega arith) {i = 11} {j = k} l in omega arith)) (λ l. l)
