-- The leaves of a plan, where their events stand, and which reach which (document 02, K4). Assumes nothing.
use Rattle.std.specs.Prelude.{ℕ, ◌+◌, ◌≡◌}
use Rattle.plan.specs.Plans.{Plan, leaf, pair}
use Rattle.plan.specs.Events.{kind_of}
use Rattle.plan.specs.declared.Access.{Access}
use Rattle.plan.specs.declared.Operator.{Operator}
use Rattle.plan.specs.declared.Operator.TheVariants.{Series, Parallel}

-- A leaf of a plan: the way down to it.
pub data Leaf : Plan → Type 0 where
  here : {k : Access} {l : ℕ} → Leaf (leaf k l)
  of_left : {o : Operator} {a b : Plan} → Leaf a → Leaf (pair o a b)
  of_right : {o : Operator} {a b : Plan} → Leaf b → Leaf (pair o a b)

-- The kind of its access, and the location.
abbrev pub kind_at : (p : Plan) → Leaf p → ℕ
kind_at (leaf k l) here = kind_of k
kind_at (pair o a b) (of_left x) = kind_at a x
kind_at (pair o a b) (of_right x) = kind_at b x

abbrev pub location_at : (p : Plan) → Leaf p → ℕ
location_at (leaf k l) here = l
location_at (pair o a b) (of_left x) = location_at a x
location_at (pair o a b) (of_right x) = location_at b x

-- How many events a plan makes: of P also a fork, a halt and a join.
abbrev pub events : Plan → ℕ
events (leaf k l) = 1
events (pair Series a b) = events a + events b
events (pair Parallel a b) = 3 + (events a + events b)

-- The position of a leaf's event, where the plan's events begin at n: G1 of P stands after the fork, and G2 after the halt.
abbrev pub position : (p : Plan) → Leaf p → ℕ → ℕ
position (leaf k l) here n = n
position (pair Series a b) (of_left x) n = position a x n
position (pair Series a b) (of_right x) n = position b x (n + events a)
position (pair Parallel a b) (of_left x) n = position a x (n + 1)
position (pair Parallel a b) (of_right x) n = position b x (n + 2 + events a)

-- "the operator where they meet is S and the first is in its left operand"
abbrev pub InSeries : (p : Plan) → Leaf p → Leaf p → Type 0
InSeries (leaf k l) here here = ⊥
InSeries (pair o a b) (of_left x) (of_left y) = InSeries a x y
InSeries (pair o a b) (of_left x) (of_right y) = o ≡ Series
InSeries (pair o a b) (of_right x) (of_left y) = ⊥
InSeries (pair o a b) (of_right x) (of_right y) = InSeries b x y
