-- DEMAND 3. "For every trace and every set of lent buffers: if the judge said clean, then whatever order of all the events the cores take, so long as it
-- keeps all arcs of the task graph, each read sees the same write as in the trace itself, and each location ends with the same last write as there. If it
-- said race s t, the first t + 1 cells of the two order buffers hold two orders of the events up to t, t included. Each keeps all arcs between those
-- events. The two are equal at every place but two, side by side, where the first has s, t and the second t, s." With sums, and with what the pair changes
-- (document 02, K3).
-- The last declaration says it of the judge's outcome, for everything that can be lent. Assumes nothing.
use Prim.Native.Nat.{ℕ, suc, ◌<◌, ◌≤◌}
use native.Mathlib.Omega.{arith}
use mathlib.Core.Path.{◌≡◌, refl, sym, subst}
use mathlib.Core.Bool.{Bool, true, false}
use mathlib.Core.List.{List, ◌++◌}
use mathlib.Core.Logic.{◌⊎◌, inl, inr, ◌↔◌, ◌≢◌}
use lib.ListN.{length, take, drop}
use lib.Seq.{take_at, drop_at}
use Rattle.trace.specs.Trace.{Trace, trace_of}
use Rattle.trace.specs.Graph.{graph_events}
use Rattle.trace.specs.Line.{Checked, passes, fails, halt_operand}
use Rattle.trace.specs.Race.{Race, InD}
use Rattle.trace.specs.Orders.{occurrences, Order, KeepsArcs, positions, select}
use Rattle.trace.specs.Outcome.{says, clean, race, judgement, in_d?, other?, schedule, sizes, order_room, Outcome, first_order, second_order, judge_checked, judge_outcome}
use Rattle.trace.specs.Demands.{SameThroughout, Witnesses, InPositionOrder, Scheduled, Demand3, JudgeDemand3}
use Rattle.trace.proofs.Tests.{by_test, either, lt_or_le, Tests, tests_map, tests_fails, tests_false, test_and, test_or, test_not, test_eq}
use Rattle.trace.proofs.Lists.{occurrences_select_passed, occurrences_select_failed, rising_select, rising_count_up}
use Rattle.trace.proofs.OrderFacts.{positions_order}
use Rattle.trace.proofs.Lines.{graph_all}
use Rattle.trace.proofs.Forward.{graph_forward}
use Rattle.trace.proofs.Paths.{Forward}
use Rattle.trace.proofs.Searches.{test_reach}
use Rattle.trace.proofs.Sizes.{sized_first, refused_not_says}
use Rattle.trace.proofs.Demand2.{demand_2}
use Rattle.trace.proofs.SameThroughout.{same_throughout}
use Rattle.trace.proofs.WitnessOrders.{witness_orders, schedule_length}
use Rattle.trace.proofs.PairMatters.{pair_matters}

-- The computed test of D is "the events other than s and t that reach s or t".
pub test_in_D : (tr : Trace) (graph : ℕ) → Forward tr graph → (s t p : ℕ) → Tests (in_d? tr graph s t p) (InD tr graph s t p)
unfolding in_d?
test_in_D tr graph forward s t p =
    tests_map (λ h. record { not_s = h.0.0; not_t = h.0.1; reaches = h.1 }) (λ d. ((d.not_s, d.not_t), d.reaches))
    (test_and _ _ (test_and _ _ (test_not _ (test_eq p s)) (test_not _ (test_eq p t)))
    (test_or _ _ (test_reach tr graph forward p s) (test_reach tr graph forward p t)))

-- What passes a test, of the positions up to t.
selected : (t : ℕ) (P : ℕ → Type 0) (test : ℕ → Bool) → ((p : ℕ) → Tests (test p) (P p)) → InPositionOrder t P (select test (positions (suc t)))
selected t P test tests =
    record {
      rising = rising_select test (positions (suc t)) (rising_count_up 0 (suc t));
      entries = λ p. by_test (test p) (passed p) (failed p);
    }
  where
    passed : (p : ℕ) → test p ≡ true → (0 < occurrences p (select test (positions (suc t)))) ↔ ((p ≤ t) × P p)
    passed p e =
        let same = occurrences_select_passed test p (positions (suc t)) e in (
          λ h. either (lt_or_le p (suc t)) (λ l. (omega arith, (tests p).0 e)) (λ l. absurd (omega (arith, (positions_order (suc t)).no_other p l))),
          λ h. let below = h.0 in omega (arith, (positions_order (suc t)).once p (omega arith)),
        )

    failed : (p : ℕ) → test p ≡ false → (0 < occurrences p (select test (positions (suc t)))) ↔ ((p ≤ t) × P p)
    failed p e = (
      λ h. absurd (omega (arith, occurrences_select_failed test p (positions (suc t)) e)),
      λ h. absurd (tests_fails _ (tests p) e h.1),
    )

module _ (tr : Trace) (n : ℕ) where
  abbrev graph : ℕ
  graph = graph_events halt_operand tr n

  abbrev forward : Forward tr graph
  forward = graph_forward halt_operand tr n

  -- CLEAN.
  pub clean_same : judgement halt_operand tr n ≡ says clean → (o : List ℕ) → Order n o → KeepsArcs tr graph n o → SameThroughout tr n o
  clean_same e =
      let c = (demand_2 halt_operand tr n).clean_iff.0 e in
      let whole : graph ≡ n = graph_all halt_operand tr n c.keeps_rules.line c.keeps_rules.reached in
      let calm : (p q : ℕ) → Race tr graph p q → ⊥ = λ p q r. either (c.connected p q r.conflict) r.not_forth r.not_back in
      λ o order keeps.
      same_throughout tr n (subst (λ (m : ℕ). Forward tr m) whole forward) (λ p q r. calm p q (subst (λ (m : ℕ). Race tr m p q) (sym whole) r)) o order
      (subst (λ (m : ℕ). KeepsArcs tr m n o) whole keeps)

  -- RACE.
  module _ (s t : ℕ) (e : judgement halt_operand tr n ≡ says (race s t)) where
    not_in_D : (p : ℕ) → (p ≡ s) ⊎ (p ≡ t) → in_d? tr graph s t p ≡ false
    not_in_D p w = tests_false _ (test_in_D tr graph forward s t p) (λ d. either w d.not_s d.not_t)

    pub race_before : (s < t) × (t < n)
    race_before = let r = ((demand_2 halt_operand tr n).race_iff s t).0 e in (r.before, r.inside)

    pub race_witnesses : Witnesses tr graph s t (schedule (in_d? tr graph s t) s t s t) (schedule (in_d? tr graph s t) s t t s)
    race_witnesses =
        let r = ((demand_2 halt_operand tr n).race_iff s t).0 e in
        witness_orders tr graph forward s t r.before r.pair.not_forth (in_d? tr graph s t) (λ p h. test_in_D tr graph forward s t p)

    pub race_length : (a b : ℕ) → length (schedule (in_d? tr graph s t) s t a b) ≡ suc t
    race_length = schedule_length (in_d? tr graph s t) s t race_before.0 (not_in_D s (inl refl)) (not_in_D t (inr refl))

    -- In each order D and the others stand in position order.
    pub race_scheduled : (a b : ℕ) → Scheduled tr graph s t a b (schedule (in_d? tr graph s t) s t a b)
    race_scheduled a b =
        record {
          earlier = select (in_d? tr graph s t) (positions (suc t));
          later = select (other? (in_d? tr graph s t) s t) (positions (suc t));
          listed = refl;
          all_D = selected t (InD tr graph s t) (in_d? tr graph s t) (test_in_D tr graph forward s t);
          all_other = selected t _ (other? (in_d? tr graph s t) s t) test_other;
        }
      where
        test_other : (p : ℕ) → Tests (other? (in_d? tr graph s t) s t p) ((p ≢ s) × (p ≢ t) × (InD tr graph s t p → ⊥))
        test_other p =
            tests_map (λ h. (λ e. h (inr (inl e)), λ e. h (inr (inr e)), λ d. h (inl d)))
            (λ h w. either w h.2 (λ v. either v h.0 h.1))
            (test_not _ (test_or _ _ (test_in_D tr graph forward s t p) (test_or _ _ (test_eq p s) (test_eq p t))))

-- The order buffers hold the two lists, and the rest is as it was.
module _ (tr : Trace) (n s t : ℕ) (e : judgement halt_operand tr n ≡ says (race s t)) (a b : ℕ) (buffer : List ℕ) where
  abbrev listed : List ℕ
  listed = schedule (in_d? tr (graph_events halt_operand tr n) s t) s t a b

  race_taken : take (suc t) (listed ++ drop (suc t) buffer) ≡ listed
  race_taken = take_at listed (drop (suc t) buffer) (suc t) (race_length tr n s t e a b)

  race_dropped : drop (suc t) (listed ++ drop (suc t) buffer) ≡ drop (suc t) buffer
  race_dropped = drop_at listed (drop (suc t) buffer) (suc t) (race_length tr n s t e a b)

module _ (tr : Trace) (n : ℕ) (b₁ b₂ : List ℕ) where
  abbrev a₁ : List ℕ
  a₁ = first_order tr (graph_events halt_operand tr n) (judgement halt_operand tr n) b₁

  abbrev a₂ : List ℕ
  a₂ = second_order tr (graph_events halt_operand tr n) (judgement halt_operand tr n) b₂

  witnesses :
      (s t : ℕ) → judgement halt_operand tr n ≡ says (race s t) → Witnesses tr (graph_events halt_operand tr n) s t (take (suc t) a₁) (take (suc t) a₂)
  unfolding first_order second_order
  witnesses s t e =
      rw (e, first_order, second_order, race_taken tr n s t e s t b₁, race_taken tr n s t e t s b₂) (race_witnesses tr n s t e)

  pub demand_3 :
      Demand3 tr n (judgement halt_operand tr n) b₁ b₂ a₁ a₂
  unfolding first_order second_order
  demand_3 =
      record {
        when_clean = clean_same tr n;
        when_race = witnesses;
        pair_matters = λ s t e.
            let w = witnesses s t e in
            pair_matters tr (graph_events halt_operand tr n) s t (suc t) (take (suc t) a₁) (take (suc t) a₂) (((demand_2 halt_operand tr n).race_iff s t).0 e).pair w.order₁
            w.swapped;
        holds₁ = λ s t e. rw (e, first_order, race_taken tr n s t e s t b₁) (race_scheduled tr n s t e s t);
        holds₂ = λ s t e. rw (e, second_order, race_taken tr n s t e t s b₂) (race_scheduled tr n s t e t s);
        unchanged₁ = λ s t e. rw (e, first_order) (race_dropped tr n s t e s t b₁);
        unchanged₂ = λ s t e. rw (e, second_order) (race_dropped tr n s t e t s b₂);
      }

module _ (kinds tasks operands workspace first second : List ℕ) where
  abbrev out : Outcome
  out = judge_outcome kinds tasks operands workspace first second

  -- Whatever sizes are checked first.
  pub demand_3_checked :
      (c : Checked ℕ) → ((n : ℕ) → c ≡ passes n → length kinds ≡ n)
      → JudgeDemand3 kinds tasks operands (judge_checked kinds tasks operands workspace first second c).answer first second
      (judge_checked kinds tasks operands workspace first second c).first (judge_checked kinds tasks operands workspace first second c).second
  unfolding judge_checked
  demand_3_checked (fails number) sized =
      record {
        when_clean = λ e. absurd (refused_not_says refl e);
        when_race = λ s t e. absurd (refused_not_says refl e);
        pair_matters = λ s t e. absurd (refused_not_says refl e);
        holds₁ = λ s t e. absurd (refused_not_says refl e);
        holds₂ = λ s t e. absurd (refused_not_says refl e);
        unchanged₁ = λ s t e. refl;
        unchanged₂ = λ s t e. refl;
      }
  demand_3_checked (passes n) sized = rw (sized n refl) (demand_3 (trace_of kinds tasks operands) n first second)

  -- DEMAND 3 of the judge's outcome.
  pub judge_demand_3 : JudgeDemand3 kinds tasks operands out.answer first second out.first out.second
  unfolding judge_outcome
  judge_demand_3 =
      demand_3_checked (order_room first second (sizes kinds tasks operands workspace))
      (λ n e. (sized_first kinds tasks operands workspace first second n e).of_kinds)
