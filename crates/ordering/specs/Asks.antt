-- What the ordering call answers, put beside the outcome of crate `trace`. Assumes nothing.
use Rattle.std.specs.Prelude.{ℕ, ◌≤◌, ◌≡◌, Bool, List, Result}
use Rattle.trace.specs.Trace.{Trace}
use Rattle.trace.specs.Line.{halt_operand, line_after}
use Rattle.trace.specs.Outcome.{Reply, OrderingOutcome, ordering}
use Rattle.trace.specs.Answers.{ordering_reply}
use Rattle.trace.specs.declared.Refusal.{Refusal}
use Rattle.ranks.specs.declared.Ranked.{Ranked}
use Rattle.ranks.specs.States.{own_number, RankSays}

-- An answer of the ordering call with the contents of the workspace.
unfoldable pub ordering_gives : Result Bool Refusal → List ℕ → OrderingOutcome
ordering_gives r workspace = record { answer = ordering_reply r; workspace = workspace }

-- Event p reaches event q, by their positions and numbers.
abbrev pub ReachesByNumber : List ℕ → List ℕ → ℕ → ℕ → Type 0
ReachesByNumber kinds c p q = (p ≤ q) × (own_number kinds c p ≤ own_number kinds c q)

-- Where `ranked` and these cells are what ranking leaves of a trace's n events, it is the reply of document 01 about p and q.
pub record AnswerSays (kinds : List ℕ) (p q : ℕ) (c : List ℕ) (ranked : Ranked) (reply : Reply Bool) : Type 0 where
  pub told :
      (tr : Trace) (n : ℕ) (entry : List ℕ) → RankSays kinds tr n entry c ranked.events ranked.broken
      → reply ≡ ordering tr n p q (line_after halt_operand tr n)
