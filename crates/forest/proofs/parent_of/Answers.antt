-- `forest::parent_of` meets its contract: a link is 0, or the parent + 1. Assumes nothing.
use Prim.Native.Nat.{ℕ, zero, suc, ◌-◌, ◌≤◌}
use mathlib.Core.Path.{◌≡◌, refl, ap}
use mathlib.Core.Option.{none, some}
use native.Mathlib.Omega.{arith}
use Rattle.std.specs.Prelude.{Option, Some, None, SomeIff, MatchOption}
use Rattle.forest.specs.Forest.{parent_of, parents}
use Rattle.forest.proofs.parent_of.Goals as goal

one_less : (l : ℕ) (r : Option ℕ) → SomeIff r (1 ≤ l) (l - 1) → MatchOption r (parent_of l ≡ none) (λ p. parent_of l ≡ some p)
one_less zero None h = refl
one_less zero (Some p) h = absurd (omega arith)
one_less (suc l) None h = absurd (omega arith)
one_less (suc l) (Some p) h = ap some (omega arith)

pub returns : goal.returns
unfolding parents
returns c = rw c.cell.ensures at (one_less _ _ c.checked_sub.ensures)
