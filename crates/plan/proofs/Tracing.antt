-- THE TRACE OF A PLAN (`plan_traces`): its events keep the line rules, have each leaf at its position, and of two leaves the first reaches the second exactly if the
-- operator where they meet is S and the first is in its left operand. And so does the trace that the slices hold (`traces_plan`). Assumes nothing.
use Prim.Native.Nat.{ℕ, suc, ◌+◌, ◌≤◌}
use mathlib.Core.Path.{◌≡◌, ap, subst, ◌∙◌}
use mathlib.Core.List.{List, [], ◌∷◌, ◌++◌, map}
use native.Mathlib.Omega.{arith}
use lib.ListN.{length, take, get_or, length-map}
use lib.Seq.{take_at}
use Rattle.trace.specs.Trace.{Trace, trace_of, Event, TASKS}
use Rattle.trace.specs.Line.{halt_operand}
use Rattle.trace.specs.Outcome.{Reply, says, refused}
use Rattle.trace.specs.Slices.{Slices, store_all, Translated, leaving}
use Rattle.trace.proofs.Tests.{either}
use Rattle.trace.proofs.Slices.{slices_hold}
use Rattle.trace.proofs.Run.{start}
use Rattle.trace.proofs.TwoStacks.{line_of_law}
use Rattle.trace.proofs.Forward.{forward}
use Rattle.plan.specs.Plans.{Plan, LEVELS, InRange, IsPlan}
use Rattle.plan.specs.Events.{forks, events_of}
use Rattle.plan.specs.Leaves.{events}
use Rattle.plan.specs.Decided.{Fits, Decided, accepted, DecidedBy, trace_in, Traces, TracesPlan}
use Rattle.plan.proofs.EventOrder.{events_length}
use Rattle.plan.proofs.Standing.{Stand}
use Rattle.plan.proofs.Running.{Ran, ran, leaf_stands}

-- ---- a trace in which the events stand

module _ (p : Plan) (tr : Trace) (in_range : InRange p) (numbers : 1 + forks p ≤ TASKS) (stand : Stand tr 0 (events_of p)) where
  whole_run : Ran tr p 0 1 0 [] [] (0 ∷ []) (λ t. 0)
  whole_run = ran tr p 0 1 0 in_range numbers stand start (λ t h i. either i (λ e. omega arith) (λ j. j))

  pub plan_traces : Traces p tr (events p)
  plan_traces =
      let e : 0 + events p ≡ events p = omega arith in
      let kept = rw e at (line_of_law halt_operand tr whole_run.run) in
      let paths = whole_run.paths (events p) (forward halt_operand tr (events p) _ kept) (omega arith) in
      record {
        keeps_rules = record { line = _; reached = kept };
        leaves = leaf_stands tr p 0 1 0 stand;
        reach = paths.leaves;
      }

-- ---- events in slices

stand_of : (tr : Trace) (n : ℕ) (es : List Event) → ((i : ℕ) → tr.kind (n + i) ≡ get_or (map (λ e. e.kind) es) i 0) →
    ((i : ℕ) → tr.task (n + i) ≡ get_or (map (λ e. e.task) es) i 0) → ((i : ℕ) → tr.operand (n + i) ≡ get_or (map (λ e. e.operand) es) i 0) →
    Stand tr n es
stand_of tr n [] k t o = tt
stand_of tr n (e ∷ es) k t o =
    let z : n + 0 ≡ n = omega arith in
    let more : (i : ℕ) → n + 1 + i ≡ n + suc i = λ i. omega arith in (
      record { kind_is = rw z at (k 0); task_is = rw z at (t 0); operand_is = rw z at (o 0) },
      stand_of tr (n + 1) es
          (λ i. ap tr.kind (more i) ∙ k (suc i))
          (λ i. ap tr.task (more i) ∙ t (suc i))
          (λ i. ap tr.operand (more i) ∙ o (suc i)),
    )

stand_listed : (es : List Event) → Stand (trace_of (map (λ e. e.kind) es) (map (λ e. e.task) es) (map (λ e. e.operand) es)) 0 es
unfolding trace_of
stand_listed es =
    let z : (i : ℕ) → 0 + i ≡ i = λ i. omega arith in
    stand_of (trace_of (map (λ e. e.kind) es) (map (λ e. e.task) es) (map (λ e. e.operand) es)) 0 es
    (λ i. rw (z i)) (λ i. rw (z i)) (λ i. rw (z i))

-- The first cells of a slice that begins with a part of the events.
take_part : (part : Event → ℕ) (es : List Event) (cells rest : List ℕ) → cells ≡ map part es ++ rest → take (length es) cells ≡ map part es
take_part part es cells rest e = rw e (take_at (map part es) rest (length es) (length-map es part))

pub stored_traces : (p : Plan) (b : Slices) → InRange p → Fits p b → Traces p (trace_in (store_all b 0 (events_of p)) (length (events_of p))) (length (events_of p))
stored_traces p b in_range fits =
    let es = events_of p in
    let held = slices_hold b es fits.room in
    let t = plan_traces p (trace_of (map (λ e. e.kind) es) (map (λ e. e.task) es) (map (λ e. e.operand) es)) in_range fits.tasks (stand_listed es) in
    rw (
      take_part (λ e. e.kind) es _ _ held.kinds,
      take_part (λ e. e.task) es _ _ held.tasks,
      take_part (λ e. e.operand) es _ _ held.operands,
      events_length p 0 1,
    ) t

-- ---- the clause

traces_reply : (text : List ℕ) (b : Slices) (reply : Reply (List Event)) → Decided text b reply → TracesPlan text (leaving b reply)
traces_reply text b (says es) (accepted p is fits) n e =
    let same : length es ≡ n = cc in
    subst (λ (m : ℕ). (q : Plan) × IsPlan LEVELS text q × Traces q (trace_in (store_all b 0 es) m) m) same (p, is, stored_traces p b is.in_range fits)
traces_reply text b (refused number position) d n e = let z : ◌≡◌ {A = ℕ} 0 1 = cc in absurd (omega arith)

pub traces_plan : (text : List ℕ) (b : Slices) (outcome : Translated) → DecidedBy text b outcome → TracesPlan text outcome
traces_plan text b outcome d = rw d.left (traces_reply text b d.reply d.decided)
