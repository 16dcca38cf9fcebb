-- Traces to go by, computed: their close pairs. Assumes nothing.
use Rattle.std.specs.Prelude.{◌≡◌, refl, List, [], ◌∷◌, length}
use Rattle.trace.specs.Trace.{Event, trace_of}
use Rattle.trace.specs.Orders.{chosen}
use Rattle.trace.specs.Runs.{◌read◌, ◌write◌, ◌sum◌, ◌fork◌, ◌join◌, ◌halt, kinds_of, tasks_of, operands_of}
use Rattle.trace.proofs.Table.{computed as Table·computed}
use Rattle.pairs.specs.Pairs.{Pair, pair, pairs_at, pairs_below, close_pairs}

unfoldable pub listed : List Event → List Pair
listed events = close_pairs (trace_of (kinds_of events) (tasks_of events) (operands_of events)) (length events)

-- Every definition that `listed` computes by: to unfold this one is to unfold them all.
unfoldable pub computed : List Event → List Pair
unfolding listed close_pairs pairs_below pairs_at chosen Table·computed
computed = listed

-- Three accesses with no order among them: each two race, also behind the first pair. By t, and then by s.
pub each_two : listed (0 fork 1 ∷ 1 write 5 ∷ 1 halt ∷ 0 fork 2 ∷ 2 write 5 ∷ 2 halt ∷ 0 read 5 ∷ []) ≡ pair 1 4 ∷ pair 1 6 ∷ pair 4 6 ∷ []
unfolding computed
each_two = refl

-- Two reads do not race, nor two sums; a read and a sum do. A task that is joined does not race any more.
pub kinds_that_race : listed (0 fork 1 ∷ 1 read 5 ∷ 1 sum 6 ∷ 1 halt ∷ 0 sum 6 ∷ 0 read 5 ∷ 0 sum 5 ∷ 0 join 1 ∷ 0 write 5 ∷ []) ≡ pair 1 6 ∷ []
unfolding computed
kinds_that_race = refl
