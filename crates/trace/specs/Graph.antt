-- The task graph (document 01, "Paths, conflicts, races"; source document 000, section 5). Assumes nothing.
use Rattle.std.specs.Prelude.{ℕ, zero, suc, ◌<◌, ◌≡◌, Bool, true, false, cond, ◌≢◌}
use Rattle.trace.specs.Trace.{Trace, FORK, JOIN, HALT}
use Rattle.trace.specs.Line.{Line, Checked, passes, fails, line_after}

unfoldable pub is_passed : Checked Line → Bool
is_passed (passes line) = true
is_passed (fails number) = false

-- How many of the first n events the graph has: "Where some event breaks a line rule, arcs are drawn only among the events before the first such
-- event."
unfoldable pub graph_events : (Line → ℕ) → Trace → ℕ → ℕ
graph_events haltRule tr zero = zero
graph_events haltRule tr (suc n) = cond (is_passed (line_after haltRule tr (suc n))) (suc n) (graph_events haltRule tr n)

-- The graph of the first `graph` events.
module _ (tr : Trace) (graph : ℕ) where
  -- "Every event is a vertex. Arcs go"
  pub data Arc : ℕ → ℕ → Type 0 where
    -- "from each event to the same task's next event,"
    to_next : {p q : ℕ} → p < q → q < graph → tr.task q ≡ tr.task p → ((r : ℕ) → p < r → r < q → tr.task r ≢ tr.task p) → Arc p q
    -- "from a fork to the child's first event,"
    to_child : {p q : ℕ} → p < graph → q < graph → tr.kind p ≡ FORK → tr.task q ≡ tr.operand p
        → ((r : ℕ) → r < q → tr.task r ≢ tr.operand p) → Arc p q
    -- "and from a task's halt to the join that names it."
    to_join : {p q : ℕ} → p < graph → q < graph → tr.kind p ≡ HALT → tr.kind q ≡ JOIN → tr.operand q ≡ tr.task p → Arc p q

  -- "Event p reaches q if p = q or a chain of arcs leads from p to q." From the first event that breaks a rule on, no event reaches any, not even
  -- itself: nothing is asked there.
  pub data Reach (p : ℕ) : ℕ → Type 0 where
    here : {q : ℕ} → q < graph → p ≡ q → Reach p q
    more : {m q : ℕ} → Reach p m → Arc m q → Reach p q
