-- Traces to go by, computed: what the conversion leaves in the operands. Assumes nothing.
use Rattle.std.specs.Prelude.{ℕ, ◌≡◌, refl, List, [], ◌∷◌, length}
use Rattle.trace.specs.Trace.{Event, trace_of}
use Rattle.trace.specs.Line.{halt_operand_before}
use Rattle.trace.specs.Runs.{◌write◌, ◌fork◌, ◌join◌, ◌halts_to◌, ◌halt, kinds_of, tasks_of, operands_of}
use Rattle.trace.proofs.Table.{computed as Table·computed}
use Rattle.convert.specs.Conversion.{named_after, operand_at, first_break, converted_operands}

unfoldable pub converted : List Event → List ℕ
converted events = converted_operands (trace_of (kinds_of events) (tasks_of events) (operands_of events)) (length events)

-- Every definition that `converted` computes by: to unfold this one is to unfold them all.
unfoldable pub computed : List Event → List ℕ
unfolding converted converted_operands first_break operand_at named_after halt_operand_before Table·computed
computed = converted

-- A nest: each halt names the parent, that of task 0 nobody. The other operands stay. A race does not stop the conversion.
pub nest_converted :
    converted (0 fork 1 ∷ 1 fork 2 ∷ 2 write 5 ∷ 2 halt ∷ 1 write 5 ∷ 1 halt ∷ 0 join 1 ∷ 0 halt ∷ []) ≡ 1 ∷ 2 ∷ 5 ∷ 1 ∷ 5 ∷ 0 ∷ 1 ∷ 0 ∷ []
unfolding computed
nest_converted = refl

-- A halt that names a task breaks the row 12 that was, though it be the one that resumes. It stays, and so do all after it.
pub named_halt_stops : converted (0 fork 1 ∷ 1 fork 2 ∷ 2 fork 3 ∷ 3 halts_to 2 ∷ 2 halt ∷ 1 halt ∷ []) ≡ 1 ∷ 2 ∷ 3 ∷ 2 ∷ 0 ∷ 0 ∷ []
unfolding computed
named_halt_stops = refl

-- A halt of a task that does not run stays, and so do all after it; those before it are set.
pub other_row_stops :
    converted (0 fork 1 ∷ 1 fork 2 ∷ 2 fork 3 ∷ 3 halt ∷ 1 halt ∷ 2 halt ∷ 1 halt ∷ []) ≡ 1 ∷ 2 ∷ 3 ∷ 2 ∷ 0 ∷ 0 ∷ 0 ∷ []
unfolding computed
other_row_stops = refl

-- A trace that is converted already.
pub converted_stays : converted (0 fork 1 ∷ 1 halt ∷ 0 fork 2 ∷ 2 fork 3 ∷ 3 halts_to 2 ∷ 2 halt ∷ []) ≡ 1 ∷ 0 ∷ 2 ∷ 3 ∷ 2 ∷ 0 ∷ []
unfolding computed
converted_stays = refl
