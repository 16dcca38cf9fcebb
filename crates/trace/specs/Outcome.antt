-- What each call answers and leaves in every lent buffer (document 01, "What the judge says", "Why a trace is turned back"), as total functions of
-- what is lent, for every length of every slice. Assumes nothing.
use Rattle.std.specs.Prelude.{ℕ, zero, suc, ◌+◌, Bool, not, ◌&&◌, ◌||◌, List, ◌∷◌, ◌++◌, eqb, ltb, length, drop, replicate}
use Rattle.std.proofs.Math.Option.{Option, none, some}
use Rattle.trace.specs.Trace.{Trace, trace_of, MAX_EVENTS, WORKSPACE_CELLS}
use Rattle.trace.specs.Line.{Line, Checked, passes, fails, row, halt_operand, line_after}
use Rattle.trace.specs.Graph.{graph_events}
use Rattle.trace.specs.Orders.{positions, select}
use Rattle.trace.specs.Search.{least_below, reach?, race?}
use Rattle.trace.specs.Joins.{longest_after}

-- What a call says, or one refusal: its number in the table and its position.
pub data Reply (A : Type 0) : Type 0 where
  says : A → Reply A
  refused : ℕ → ℕ → Reply A

-- "clean: all events passed"; "race s t".
pub data Verdict : Type 0 where
  clean : Verdict
  race : ℕ → ℕ → Verdict

-- ---- the judge's answer past the size checks

unfoldable pub or_else : Option (Reply Verdict) → Option (Reply Verdict) → Option (Reply Verdict)
or_else (some reply) next = some reply
or_else none next = next

unfoldable pub race_with : ℕ → Option ℕ → Option (Reply Verdict)
race_with t none = none
race_with t (some s) = some (says (race s t))

module _ (haltRule : Line → ℕ) (tr : Trace) (n : ℕ) where
  -- "s the smallest position it races with"
  unfoldable pub partner : ℕ → Option ℕ
  partner t = least_below t (λ s. race? tr (graph_events haltRule tr n) s t)

  -- "Each is first held to the line rules, which are rows 5 to 12 below, then to the race test."
  unfoldable pub failure_at : ℕ → Checked Line → Option (Reply Verdict)
  failure_at t (fails number) = some (refused number t)
  failure_at t (passes line) = race_with t (partner t)

  -- "Events are taken in position order." "The first failure decides and later events are not looked at." The one among the first t events, or none:
  unfoldable pub first_failure : ℕ → Option (Reply Verdict)
  first_failure zero = none
  first_failure (suc t) = or_else (first_failure t) (failure_at t (line_after haltRule tr (suc t)))

  -- A named place for what is asked of the line at the trace's end, where nothing is asked: "A trace may end anywhere that the rules allow, also with
  -- tasks running or unjoined."
  unfoldable pub at_end : Checked Line → Reply Verdict
  at_end line = says clean

  unfoldable pub or_at_end : Option (Reply Verdict) → Reply Verdict
  or_at_end (some reply) = reply
  or_at_end none = at_end (line_after haltRule tr n)

  -- "clean: all events passed."
  unfoldable pub judgement : Reply Verdict
  judgement = or_at_end (first_failure n)

-- ---- the two orders of a race

-- "let D be the events other than s and t that reach s or t"
unfoldable pub in_d? : Trace → ℕ → ℕ → ℕ → ℕ → Bool
in_d? tr graph s t p = not (eqb p s) && not (eqb p t) && (reach? tr graph p s || reach? tr graph p t)

-- Neither of D, nor s or t.
abbrev pub other? : (ℕ → Bool) → ℕ → ℕ → ℕ → Bool
other? in_d s t p = not (in_d p || (eqb p s || eqb p t))

-- "D in position order, then s, t, then all other positions up to t in position order": with a and b for s and t, either way round.
abbrev pub schedule : (ℕ → Bool) → ℕ → ℕ → ℕ → ℕ → List ℕ
schedule in_d s t a b = select in_d (positions (suc t)) ++ (a ∷ b ∷ select (other? in_d s t) (positions (suc t)))

-- ---- the lent slices

-- Rows 1 to 3, asked first by every call over a whole trace. Where they pass, the number of events.
unfoldable pub sizes : List ℕ → List ℕ → List ℕ → List ℕ → Checked ℕ
sizes kinds tasks operands workspace =
    row 1 (not (eqb (length kinds) (length tasks) && eqb (length kinds) (length operands)))
    (row 2 (ltb MAX_EVENTS (length kinds))
    (row 3 (ltb (length workspace) (WORKSPACE_CELLS + length kinds))
    (passes (length kinds))))

-- Row 4, for a call that has order buffers.
unfoldable pub order_room : List ℕ → List ℕ → Checked ℕ → Checked ℕ
order_room first second (fails number) = fails number
order_room first second (passes n) = row 4 (ltb (length first) n || ltb (length second) n) (passes n)

-- "the first 12,288 cells plus one per event are 0, and the rest is unchanged"
unfoldable pub cleared : ℕ → List ℕ → List ℕ
cleared n workspace = replicate (WORKSPACE_CELLS + n) 0 ++ drop (WORKSPACE_CELLS + n) workspace

-- ---- the number beside the answer

-- How many of n events the table of joins is of: "after the last event looked at". That is t where t races; a refused event joins nothing.
unfoldable pub looked_at : ℕ → Reply Verdict → ℕ
looked_at n (says clean) = n
looked_at n (says (race s t)) = suc t
looked_at n (refused number position) = position

-- "With clean or race the judge reports the largest such number that any task has after the last event looked at; with a refusal, 0."
unfoldable pub links_beside : Trace → ℕ → Reply Verdict → ℕ
links_beside tr n (says verdict) = longest_after tr (looked_at n (says verdict))
links_beside tr n (refused number position) = 0

-- ---- all that a call leaves

-- What the judge answers, the number of links beside it, and what it leaves in the workspace and in both order buffers.
pub record Outcome : Type 0 where
  pub answer : Reply Verdict
  pub links : ℕ
  pub workspace : List ℕ
  pub first : List ℕ
  pub second : List ℕ

module _ (tr : Trace) (graph : ℕ) where
  -- "The first order buffer (u16 cells) then holds D in position order, then s, t, then all other positions up to t in position order. The second holds
  -- the same with t, s. Cells from t + 1 on are unchanged. With clean or refused neither buffer changes."
  unfoldable pub first_order : Reply Verdict → List ℕ → List ℕ
  first_order (says clean) buffer = buffer
  first_order (says (race s t)) buffer = schedule (in_d? tr graph s t) s t s t ++ drop (suc t) buffer
  first_order (refused number position) buffer = buffer

  unfoldable pub second_order : Reply Verdict → List ℕ → List ℕ
  second_order (says clean) buffer = buffer
  second_order (says (race s t)) buffer = schedule (in_d? tr graph s t) s t t s ++ drop (suc t) buffer
  second_order (refused number position) buffer = buffer

module _ (kinds tasks operands workspace first second : List ℕ) where
  -- "A refusal tied to no event, line or byte has position 0." After refusals 1 to 4 every buffer is unchanged.
  unfoldable pub judge_checked : Checked ℕ → Outcome
  judge_checked (fails number) = record { answer = refused number 0; links = 0; workspace = workspace; first = first; second = second }
  judge_checked (passes n) =
      let tr = trace_of kinds tasks operands in
      let graph = graph_events halt_operand tr n in
      let answer = judgement halt_operand tr n in
      record {
        answer = answer;
        links = links_beside tr n answer;
        workspace = cleared n workspace;
        first = first_order tr graph answer first;
        second = second_order tr graph answer second;
      }

  -- THE JUDGE: "The checks go 1, 2, 3, 4; then for each event 5, 6, 7 and the one row for its kind".
  unfoldable pub judge_outcome : Outcome
  judge_outcome = judge_checked (order_room first second (sizes kinds tasks operands workspace))

-- What the ordering call answers, and what it leaves in the workspace.
pub record OrderingOutcome : Type 0 where
  pub answer : Reply Bool
  pub workspace : List ℕ

-- "A refusal tied to no event, line or byte has position 0."
unfoldable pub ordering_said : Checked Bool → Reply Bool
ordering_said (fails number) = refused number 0
ordering_said (passes answer) = says answer

module _ (tr : Trace) (n p q : ℕ) where
  -- "It says yes exactly if p reaches q, else no. The whole trace must keep the line rules; races don't stop it." "Refusal 13 comes after all others."
  -- The graph has the events before the first that breaks a rule, so their number is that event's position.
  unfoldable pub ordering : Checked Line → Reply Bool
  ordering (fails number) = refused number (graph_events halt_operand tr n)
  ordering (passes line) = ordering_said (row 13 (not (ltb p n && ltb q n)) (passes (reach? tr n p q)))

module _ (kinds tasks operands workspace : List ℕ) (p q : ℕ) where
  unfoldable pub ordering_checked : Checked ℕ → OrderingOutcome
  ordering_checked (fails number) = record { answer = refused number 0; workspace = workspace }
  ordering_checked (passes n) =
      let tr = trace_of kinds tasks operands in
      record { answer = ordering tr n p q (line_after halt_operand tr n); workspace = cleared n workspace }

  -- THE ORDERING CALL: rows 1 to 3, 5 to 12 and 13. "It treats the workspace as the judge does."
  unfoldable pub ordering_outcome : OrderingOutcome
  ordering_outcome = ordering_checked (sizes kinds tasks operands workspace)
