-- Two traces, each under its rule for a halt's operand, that agree on the first m events but for the operands of halts: paths to events that are in both
-- graphs, races among them and D of a race are the same. Where the line of one is the line of the other as long as the one keeps the rules, what is a race or
-- clean under the one rule is so under the other. Assumes nothing.
use Prim.Native.Nat.{ℕ, suc, ◌<◌, ◌≤◌}
use mathlib.Core.Path.{◌≡◌, sym, ◌∙◌}
use mathlib.Core.Logic.{inl, inr, ◌↔◌}
use native.Mathlib.Omega.{arith}
use Rattle.trace.specs.Trace.{Trace}
use Rattle.trace.specs.Line.{Line, passes, line_after}
use Rattle.trace.specs.Graph.{Reach, graph_events}
use Rattle.trace.specs.Race.{Race}
use Rattle.trace.specs.Outcome.{in_d?}
use Rattle.trace.specs.Demands.{KeepsRules, NoRaceBefore, IsClean, IsRace}
use Rattle.trace.proofs.Tests.{either, tests_map, tests_unique}
use Rattle.trace.proofs.Lines.{graph_all, graph_ge}
use Rattle.trace.proofs.Forward.{graph_forward, reach_prefix, race_prefix}
use Rattle.trace.proofs.Congruence.{SameButHalts, reach_same, race_same, conflict_same}
use Rattle.trace.proofs.Demand3.{test_in_D}

module _ (rule rule' : Line → ℕ) (tr tr' : Trace) (n n' : ℕ) {m : ℕ} (same : SameButHalts tr tr' m) where
  abbrev graph : ℕ
  graph = graph_events rule tr n

  abbrev graph' : ℕ
  graph' = graph_events rule' tr' n'

  -- The first k events, k at most m, are in both graphs.
  module _ (k : ℕ) (few : k ≤ m) (inside : k ≤ graph) (inside' : k ≤ graph') where
    reach_alike : (p q : ℕ) → q < k → Reach tr graph p q ↔ Reach tr' graph' p q
    reach_alike p q h =
        let here = reach_prefix inside (graph_forward rule tr n) p q in
        let there = reach_prefix inside' (graph_forward rule' tr' n') p q in
        let both = reach_same few same p q in
        (λ path. (there.0 (both.0 (here.1 (path, h)))).0, λ path. (here.0 (both.1 (there.1 (path, h)))).0)

    race_alike : (p q : ℕ) → p < k → q < k → Race tr graph p q ↔ Race tr' graph' p q
    race_alike p q hp hq =
        let here = race_prefix inside (graph_forward rule tr n) p q in
        let there = race_prefix inside' (graph_forward rule' tr' n') p q in
        let both = race_same few same p q in
        (λ r. (there.0 (both.0 (here.1 (r, hp, hq)))).0, λ r. (here.0 (both.1 (there.1 (r, hp, hq)))).0)

    pub in_D_alike : (s t : ℕ) → s < k → t < k → (p : ℕ) → in_d? tr graph s t p ≡ in_d? tr' graph' s t p
    in_D_alike s t hs ht p =
        let to-s = reach_alike p s hs in
        let to-t = reach_alike p t ht in
        tests_unique _ _
        (tests_map
        (λ d.
        record { not_s = d.not_s; not_t = d.not_t; reaches = either d.reaches (λ path. inl (to-s.0 path)) (λ path. inr (to-t.0 path)) })
        (λ d.
        record { not_s = d.not_s; not_t = d.not_t; reaches = either d.reaches (λ path. inl (to-s.1 path)) (λ path. inr (to-t.1 path)) })
        (test_in_D tr graph (graph_forward rule tr n) s t p))
        (test_in_D tr' graph' (graph_forward rule' tr' n') s t p)

    pub no_race_alike : (t : ℕ) → t ≤ k → NoRaceBefore tr graph t → NoRaceBefore tr' graph' t
    no_race_alike t h calm p q less below r = calm p q less below ((race_alike p q (omega arith) (omega arith)).1 r)

  -- ---- where the line of the one is the line of the other

  module _ (lines : (k : ℕ) → k ≤ m → (line : Line) → line_after rule tr k ≡ passes line → line_after rule' tr' k ≡ passes line) where
    keeps_alike : (k : ℕ) → k ≤ m → KeepsRules rule tr k → KeepsRules rule' tr' k
    keeps_alike k h kept = record { line = kept.line; reached = lines k h kept.line kept.reached }

    pub graphs_hold : (k : ℕ) → k ≤ m → k ≤ n → k ≤ n' → KeepsRules rule tr k → (k ≤ graph) × (k ≤ graph')
    graphs_hold k few h h' kept =
        let kept' = keeps_alike k few kept in
        (graph_ge rule tr k n kept.line h kept.reached, graph_ge rule' tr' k n' kept'.line h' kept'.reached)

    -- A race up to event m is a race.
    pub race_carries : (s t : ℕ) → t < m → t < n' → IsRace rule tr n s t → IsRace rule' tr' n' s t
    race_carries s t few h r =
        let inside = r.inside in
        let before = r.before in
        let g = graphs_hold (suc t) few inside h r.keeps_rules in
        let races = race_alike (suc t) few g.0 g.1 in
        record {
          inside = h;
          before = before;
          keeps_rules = keeps_alike (suc t) few r.keeps_rules;
          pair = (races s t (omega arith) (omega arith)).0 r.pair;
          first = no_race_alike (suc t) few g.0 g.1 t (omega arith) r.first;
          earliest = λ p i q. r.earliest p i ((races p t (omega arith) (omega arith)).1 q);
        }

    -- Where it is all events of both, clean is clean.
    pub clean_carries : m ≡ n → n ≡ n' → IsClean rule tr n → IsClean rule' tr' n'
    clean_carries all one c =
        let kept = c.keeps_rules in
        let kept' : KeepsRules rule' tr' n' = rw one at (keeps_alike n (omega arith) kept) in
        let few : m ≤ m = omega arith in
        let whole : graph ≡ m = graph_all rule tr n kept.line kept.reached ∙ sym all in
        let whole' : graph' ≡ m = graph_all rule' tr' n' kept'.line kept'.reached ∙ sym (all ∙ one) in
        record {
          keeps_rules = kept';
          connected = λ p q i.
              let i' = rw whole' at i in
              let path = rw whole at (c.connected p q (rw (← whole) at ((conflict_same few same p q).1 i'))) in
              rw whole' (either path (λ j. inl ((reach_same few same p q).0 j)) (λ j. inr ((reach_same few same q p).0 j)));
        }
