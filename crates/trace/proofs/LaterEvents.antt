-- "The first failure decides and later events are not looked at." Two traces that agree on the first t + 1 events, whatever follows in either: where
-- the judgement of one is decided at event t, by a race s t or by a refusal at t, that of the other is the same, and so are the two orders of a race and
-- the number of links beside it. Assumes nothing.
use Prim.Native.Nat.{ℕ, zero, suc, ◌<◌, ◌≤◌}
use mathlib.Core.Path.{◌≡◌, refl, sym, ap, ◌∙◌}
use mathlib.Core.Bool.{Bool}
use mathlib.Core.List.{List, ◌∷◌, ◌++◌}
use native.Mathlib.Omega.{arith}
use Rattle.trace.specs.Trace.{Trace, TASKS}
use Rattle.trace.specs.Line.{Line, passes, halt_operand, line_after}
use Rattle.trace.specs.Graph.{graph_events}
use Rattle.trace.specs.Orders.{positions, select}
use Rattle.trace.specs.Search.{largest_below}
use Rattle.trace.specs.Joins.{Parents, links_of, joined_by, joins_after, longest_after}
use Rattle.trace.specs.Outcome.{says, refused, race, judgement, in_d?, other?, schedule, looked_at, links_beside}
use Rattle.trace.specs.Demands.{IsRefused, IsRace}
use Rattle.trace.proofs.Lists.{select_same}
use Rattle.trace.proofs.Lines.{line_more}
use Rattle.trace.proofs.Congruence.{SameButHalts, line_same}
use Rattle.trace.proofs.Demand2.{demand_2}
use Rattle.trace.proofs.Alike.{in_D_alike, no_race_alike, graphs_hold, race_carries}

-- The first n events of both have the same kinds, tasks and operands.
pub record SameEvents (tr tr' : Trace) (n : ℕ) : Type 0 where
  pub kinds : (p : ℕ) → p < n → tr.kind p ≡ tr'.kind p
  pub tasks : (p : ℕ) → p < n → tr.task p ≡ tr'.task p
  pub operands : (p : ℕ) → p < n → tr.operand p ≡ tr'.operand p

-- Two tests that agree give one schedule.
schedule_same : (in_d inD' : ℕ → Bool) → ((p : ℕ) → in_d p ≡ inD' p) → (s t a b : ℕ) → schedule in_d s t a b ≡ schedule inD' s t a b
schedule_same in_d inD' agree s t a b =
    let all : List ℕ = positions (suc t) in
    ap (λ (z : List ℕ). z ++ (a ∷ b ∷ select (other? in_d s t) all)) (select_same in_d inD' agree all)
    ∙ ap (λ (z : List ℕ). select inD' all ++ (a ∷ b ∷ z)) (select_same (other? in_d s t) (other? inD' s t) (λ p. rw (agree p)) all)

module _ (tr tr' : Trace) (m : ℕ) (same : SameEvents tr tr' m) where
  alike : SameButHalts tr tr' m
  alike = record { kinds = same.kinds; tasks = same.tasks; operands = λ p h k. same.operands p h }

  lines_same : (k : ℕ) → k ≤ m → line_after halt_operand tr k ≡ line_after halt_operand tr' k
  lines_same = line_same halt_operand alike (λ p h k. same.operands p h)

  passes_same : (k : ℕ) → k ≤ m → (line : Line) → line_after halt_operand tr k ≡ passes line → line_after halt_operand tr' k ≡ passes line
  passes_same k h line e = sym (lines_same k h) ∙ e

  joins_same : (k : ℕ) → k ≤ m → joins_after tr k ≡ joins_after tr' k
  unfolding joins_after joined_by
  joins_same zero h = refl
  joins_same (suc k) h =
      rw (joins_same k (omega arith), same.kinds k (omega arith), same.tasks k (omega arith), same.operands k (omega arith))

module _ (tr tr' : Trace) (n n' t : ℕ) (same : SameEvents tr tr' (suc t)) (inside : t < n') where
  abbrev graph : ℕ
  graph = graph_events halt_operand tr n

  abbrev graph' : ℕ
  graph' = graph_events halt_operand tr' n'

  carries : (s : ℕ) → IsRace halt_operand tr n s t → IsRace halt_operand tr' n' s t
  carries s =
      race_carries halt_operand halt_operand tr tr' n n' (alike tr tr' (suc t) same) (passes_same tr tr' (suc t) same) s t (omega arith) inside

  -- LATER EVENTS ARE NOT LOOKED AT, where a race decides,
  pub later_race : (s : ℕ) → judgement halt_operand tr n ≡ says (race s t) → judgement halt_operand tr' n' ≡ says (race s t)
  later_race s e = ((demand_2 halt_operand tr' n').race_iff s t).1 (carries s (((demand_2 halt_operand tr n).race_iff s t).0 e))

  -- in the two orders of that race,
  pub later_schedule :
      (s : ℕ) → judgement halt_operand tr n ≡ says (race s t) → (a b : ℕ) → schedule (in_d? tr graph s t) s t a b ≡ schedule (in_d? tr' graph' s t) s t a b
  later_schedule s e a b =
      let r = ((demand_2 halt_operand tr n).race_iff s t).0 e in
      let before = r.before in
      let same-but-halts = alike tr tr' (suc t) same in
      let few : suc t ≤ suc t = omega arith in
      let g = graphs_hold halt_operand halt_operand tr tr' n n' same-but-halts (passes_same tr tr' (suc t) same) (suc t) few r.inside inside r.keeps_rules in
      schedule_same (in_d? tr graph s t) (in_d? tr' graph' s t)
      (in_D_alike halt_operand halt_operand tr tr' n n' same-but-halts (suc t) few g.0 g.1 s t (omega arith) (omega arith)) s t a b

  -- in the links beside it,
  pub later_links : (s : ℕ) → links_beside tr n (says (race s t)) ≡ links_beside tr' n' (says (race s t))
  unfolding links_beside looked_at longest_after
  later_links s = ap (λ (parent : Parents). largest_below TASKS (links_of parent)) (joins_same tr tr' (suc t) same (suc t) (omega arith))

  refused_carries : (number : ℕ) → IsRefused halt_operand tr n number t → IsRefused halt_operand tr' n' number t
  refused_carries number r =
      let b = r.breaks_first in
      let h = r.inside in
      let lines = lines_same tr tr' (suc t) same in
      let kept' = sym (lines t (omega arith)) ∙ b.kept_before in
      let broken = line_more halt_operand tr t b.line b.kept_before ∙ b.broken in
      let broken' = sym (lines (suc t) (omega arith)) ∙ broken in
      let g = graphs_hold halt_operand halt_operand tr tr' n n' (alike tr tr' (suc t) same) (passes_same tr tr' (suc t) same) t (omega arith) (omega arith)
      (omega arith) (record { line = b.line; reached = b.kept_before }) in
      record {
        inside = inside;
        breaks_first =
            record { line = b.line; kept_before = kept'; broken = sym (line_more halt_operand tr' t b.line kept') ∙ broken' };
        no_race =
            no_race_alike halt_operand halt_operand tr tr' n n' (alike tr tr' (suc t) same) t (omega arith) g.0 g.1 t (omega arith) r.no_race;
      }

  -- and where a refusal decides.
  pub later_refused : (number : ℕ) → judgement halt_operand tr n ≡ refused number t → judgement halt_operand tr' n' ≡ refused number t
  later_refused number e =
      ((demand_2 halt_operand tr' n').refused_iff number t).1 (refused_carries number (((demand_2 halt_operand tr n).refused_iff number t).0 e))
