-- What the judge answers, put beside the outcome of crate `trace`. Assumes nothing.
use Rattle.std.specs.Prelude.{ℕ, ◌≡◌, List, Result}
use Rattle.trace.specs.declared.Refusal.{Refusal}
use Rattle.trace.specs.declared.Verdict as code
use Rattle.trace.specs.Trace.{Trace}
use Rattle.trace.specs.Graph.{graph_events}
use Rattle.trace.specs.Line.{halt_operand}
use Rattle.trace.specs.Outcome.{Reply, Verdict, Outcome, judgement, looked_at, links_beside, first_order, second_order}
use Rattle.trace.specs.Answers.{judge_reply, judge_links}
use Rattle.cells.specs.Cells.{Rest}
use Rattle.chains.specs.Tables.{Bounded}

-- An answer of the judge and the links beside it, with the contents of the workspace and of both order buffers.
unfoldable pub judge_gives : Result code.Verdict Refusal → List ℕ → List ℕ → List ℕ → Outcome
judge_gives r workspace first second = record { answer = judge_reply r; links = judge_links r; workspace = workspace; first = first; second = second }

-- Past the size checks: the reply is the judgement of the n events, the links beside it, with their bound, and the order buffers are what it says. The cells that
-- are cleared next may hold anything.
pub record Decided (tr : Trace) (n : ℕ) (reply : Reply Verdict) (links : ℕ) (entry exit b₁ a₁ b₂ a₂ : List ℕ) : Type 0 where
  pub rest : Rest n entry exit
  pub answer : reply ≡ judgement halt_operand tr n
  pub beside : links ≡ links_beside tr n reply
  pub bound : Bounded tr (looked_at n reply)
  pub first : a₁ ≡ first_order tr (graph_events halt_operand tr n) reply b₁
  pub second : a₂ ≡ second_order tr (graph_events halt_operand tr n) reply b₂
