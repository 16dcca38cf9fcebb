-- The † runs of document 01, those that tell a judge that deceives, those that tell another rule for sums, another for a halt's operand or another table of
-- joins, and the examples of the table of refusals are judged as the documents say: one computed fact about each table. Row 13, which is the ordering call's, has
-- the fact after them; then what each case of the code's answers says. Assumes nothing.
use Prim.Native.Nat.{ℕ, zero, suc, ◌+◌}
use mathlib.Core.Path.{◌≡◌, refl, ap}
use mathlib.Core.Bool.{Bool, true, false}
use Rattle.std.specs.Prelude.{Ok, Err}
use mathlib.Core.List.{List, [], ◌∷◌, ◌++◌, map}
use native.Mathlib.Omega.{arith}
use lib.Dec.{leb}
use lib.ListN.{length, drop, replicate, length-replicate, length-map}
use borrow.Author.Tests.{eq-eqb, le-ltb, leb-true}
use Rattle.trace.specs.Trace.{Event, trace_of, is_kind, is_access, MAX_EVENTS, WORKSPACE_CELLS}
use Rattle.trace.specs.Race.{conflicting}
use Rattle.trace.specs.Line.{row, start, is_empty, is_head, is_member, is_left_of, put_left_of, remove, forked, joined, halted, resumed, halt_operand}
use Rattle.trace.specs.Line.{passes, step_by_kind, step, step_after, line_after}
use Rattle.trace.specs.Graph.{is_passed, graph_events}
use Rattle.trace.specs.Search.{count_below, largest_below}
use Rattle.trace.specs.Joins.{alone, top_within, links_within, top_of, links_of, tree_size, hung, united, joined_by, joins_after, longest_after}
use Rattle.trace.specs.Search.{some_below, least_below, next?, child?, join?, arc?, chain?, reach?, conflict?, race?}
use Rattle.trace.specs.declared.Verdict.TheVariants.{Clean, Race}
use Rattle.trace.specs.Outcome.{Reply, says, refused, Verdict, clean, race, or_else, race_with, partner, failure_at, first_failure, at_end, or_at_end, judgement}
use Rattle.trace.specs.Outcome.{in_d?, sizes, order_room, cleared, looked_at, links_beside, first_order, second_order, judge_checked, judge_outcome}
use Rattle.trace.specs.Outcome.{OrderingOutcome, ordering_said, ordering, ordering_checked, ordering_outcome}
use Rattle.trace.specs.Answers.{judge_reply, judge_links, ordering_reply}
use Rattle.trace.specs.Runs.{Case, runs, deceivers, counters, nests, chains, lent_for, kinds_of, tasks_of, operands_of, holding, lent, judged, expected}
use Rattle.trace.specs.Refusals.{cells, size_examples, examples}

-- ---- what is lent for a row of a table is long enough, so that no cell of its workspace is computed

drop_replicate : (m k value : ℕ) → drop m (replicate (m + k) value) ≡ replicate k value
drop_replicate zero k value = let none : 0 + k ≡ k = omega arith in rw none refl
drop_replicate (suc m) k value = let more : suc m + k ≡ suc (m + k) = omega arith in rw more (drop_replicate m k value)

module _ (events : List Event) (spare : ℕ) where
  abbrev n : ℕ
  n = length events

  abbrev workspace : List ℕ
  workspace = lent_for spare (WORKSPACE_CELLS + n)

  sizes_pass : leb n MAX_EVENTS ≡ true → sizes (kinds_of events) (tasks_of events) (operands_of events) workspace ≡ passes n
  unfolding sizes row
  sizes_pass few =
      let room = length-replicate {A = ℕ} (WORKSPACE_CELLS + n + spare) 9 in
      rw (
        length-map events (λ (e : Event). e.kind),
        length-map events (λ (e : Event). e.task),
        length-map events (λ (e : Event). e.operand),
        eq-eqb n n refl,
        le-ltb MAX_EVENTS n (leb-true n MAX_EVENTS few),
        le-ltb (length workspace) (WORKSPACE_CELLS + n) (omega arith),
      )

  room_passes : order_room (lent_for spare n) (lent_for spare n) (passes n) ≡ passes n
  unfolding order_room row
  room_passes = let room = length-replicate {A = ℕ} (n + spare) 9 in rw (le-ltb (length (lent_for spare n)) n (omega arith))

  lent_cleared : cleared n workspace ≡ replicate (WORKSPACE_CELLS + n) 0 ++ replicate spare 9
  unfolding cleared
  lent_cleared = rw (drop_replicate (WORKSPACE_CELLS + n) spare 9)

-- What is computed of a row: that its events are few, its answer, the links and both order buffers; and what the row names.
pub record Parts : Type 0 where
  few : Bool
  answer : Reply Verdict
  links : ℕ
  first : List ℕ
  second : List ℕ

unfoldable pub found : Case → Parts
found r =
    let n = length r.events in
    let tr = trace_of (kinds_of r.events) (tasks_of r.events) (operands_of r.events) in
    let graph = graph_events halt_operand tr n in
    let answer = judgement halt_operand tr n in
    record {
      few = leb n MAX_EVENTS;
      answer = answer;
      links = links_beside tr n answer;
      first = first_order tr graph answer (lent_for r.spare n);
      second = second_order tr graph answer (lent_for r.spare n);
    }

unfoldable pub named : Case → Parts
named r =
    let n = length r.events in
    record {
      few = true;
      answer = r.answer;
      links = r.links;
      first = holding r.order₁ (lent_for r.spare n);
      second = holding r.order₂ (lent_for r.spare n);
    }

as_expected : (r : Case) → found r ≡ named r → judged (lent r) ≡ expected (lent r)
unfolding found named judged lent expected judge_outcome judge_checked
as_expected r e =
    let few : leb (length r.events) MAX_EVENTS ≡ true = ap (λ (t : Parts). t.few) e in
    rw (sizes_pass r.events r.spare few, room_passes r.events r.spare, judge_checked, lent_cleared r.events r.spare)
    (ap
    (λ (t : Parts).
    record {
      answer = t.answer;
      links = t.links;
      workspace = replicate (WORKSPACE_CELLS + length r.events) 0 ++ replicate r.spare 9;
      first = t.first;
      second = t.second;
    })
    e)

all_expected : (rs : List Case) → map found rs ≡ map named rs → map judged (map lent rs) ≡ map expected (map lent rs)
all_expected [] e = refl
all_expected (r ∷ rs) e =
    let here : found r ≡ named r = cc in
    let there : map found rs ≡ map named rs = cc in
    cc (as_expected r here, all_expected rs there)

-- ---- the tables

-- Every definition that `found` computes by: to unfold this one is to unfold them all.
unfoldable pub computed : Case → Parts
unfolding trace_of is_kind is_access conflicting row start is_empty is_head is_member is_left_of put_left_of remove forked joined halted resumed halt_operand
    step_by_kind step step_after line_after is_passed graph_events some_below least_below next? child? join? arc? chain? reach? conflict? race? or_else
    race_with partner failure_at first_failure at_end or_at_end judgement in_d? first_order second_order count_below largest_below alone top_within
    links_within top_of links_of tree_size hung united joined_by joins_after longest_after looked_at links_beside found named
computed = found

-- The † runs.
pub runs_as_expected : map judged (map lent runs) ≡ map expected (map lent runs)
unfolding computed runs
runs_as_expected = all_expected runs refl

-- The runs that tell a judge that deceives.
pub deceivers_as_expected : map judged (map lent deceivers) ≡ map expected (map lent deceivers)
unfolding computed deceivers
deceivers_as_expected = all_expected deceivers refl

-- The runs that tell another rule for sums.
pub counters_as_expected : map judged (map lent counters) ≡ map expected (map lent counters)
unfolding computed counters
counters_as_expected = all_expected counters refl

-- The runs that tell another rule for a halt's operand.
pub nests_as_expected : map judged (map lent nests) ≡ map expected (map lent nests)
unfolding computed nests
nests_as_expected = all_expected nests refl

-- The runs that tell another table of joins.
pub chains_as_expected : map judged (map lent chains) ≡ map expected (map lent chains)
unfolding computed chains
chains_as_expected = all_expected chains refl

-- The examples of rows 1 to 4. These rows ask for lengths alone, so no cell is looked at.
length_cells : (n value : ℕ) → length (cells n value) ≡ n
unfolding cells
length_cells n value = length-replicate n value

pub sizes_as_expected : map judged size_examples ≡ map expected size_examples
unfolding judged judge_outcome judge_checked order_room sizes row size_examples expected
sizes_as_expected = simp length_cells refl

-- The examples of rows 5 to 12.
pub examples_as_expected : map judged (map lent examples) ≡ map expected (map lent examples)
unfolding computed examples
examples_as_expected = all_expected examples refl

-- ---- row 13

-- The ordering call's outcome for some events.
abbrev pub asked : List Event → ℕ → ℕ → OrderingOutcome
asked events p q =
    ordering_outcome (kinds_of events) (tasks_of events) (operands_of events) (lent_for 1 (WORKSPACE_CELLS + length events)) p q

-- The answer, with the workspace cleared but for its one cell to spare.
abbrev pub answered : List Event → Reply Bool → OrderingOutcome
answered events answer = record { answer = answer; workspace = replicate (WORKSPACE_CELLS + length events) 0 ++ replicate 1 9 }

ordered : (events : List Event) (p q : ℕ) (answer : Reply Bool) → leb (length events) MAX_EVENTS ≡ true →
    (let tr = trace_of (kinds_of events) (tasks_of events) (operands_of events) in
    ordering tr (length events) p q (line_after halt_operand tr (length events)) ≡ answer) → asked events p q ≡ answered events answer
unfolding ordering_outcome ordering_checked
ordered events p q answer few e = rw (sizes_pass events 1 few, ordering_checked, lent_cleared events 1) (ap (answered events) e)

-- Row 13: "empty trace, p = 0".
pub beyond_as_expected : asked [] 0 0 ≡ answered [] (refused 13 0)
unfolding computed ordering_said ordering
beyond_as_expected = ordered [] 0 0 _ refl refl

-- "Refusal 13 comes after all others": where event 0 has no known kind and neither p nor q is an event.
abbrev unknown : List Event
unknown = record { kind = 6; task = 0; operand = 0 } ∷ []

pub broken_as_expected : asked unknown 1 1 ≡ answered unknown (refused 5 0)
unfolding computed ordering_said ordering
broken_as_expected = ordered unknown 1 1 _ refl refl

-- What each case of the code's answers says: "clean", "race s t", "refused number position"; "yes", "no", "such a refusal".
pub judge_replies :
    ((links : ℕ) → judge_reply (Ok (Clean links)) ≡ says clean)
    × ((s t links : ℕ) → judge_reply (Ok (Race s t links)) ≡ says (race s t))
    × ((number position : ℕ) → judge_reply (Err (record { number = number; position = position })) ≡ refused number position)
unfolding judge_reply
judge_replies = (λ links. refl, λ s t links. refl, λ number position. refl)

-- And the number beside it.
pub judge_links_law :
    ((links : ℕ) → judge_links (Ok (Clean links)) ≡ links)
    × ((s t links : ℕ) → judge_links (Ok (Race s t links)) ≡ links)
    × ((number position : ℕ) → judge_links (Err (record { number = number; position = position })) ≡ 0)
unfolding judge_links
judge_links_law = (λ links. refl, λ s t links. refl, λ number position. refl)

pub ordering_replies :
    (ordering_reply (Ok true) ≡ says true)
    × (ordering_reply (Ok false) ≡ says false)
    × ((number position : ℕ) → ordering_reply (Err (record { number = number; position = position })) ≡ refused number position)
unfolding ordering_reply
ordering_replies = (refl, refl, λ number position. refl)
