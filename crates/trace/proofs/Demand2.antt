-- DEMAND 2. "Past the size checks (rows 1 to 4), a trace is called clean exactly when it keeps the line rules and every two conflicting accesses are
-- joined by a path in its task graph. Otherwise the first event that breaks a rule or races with an earlier one decides the answer. A race names the
-- first access that has a conflicting, unordered access before it, and the earliest such partner." `demand_2` is the
-- theorem for a trace, and the last declaration says it of the judge's outcome, for everything that can be lent. Beside it stand `exactly_one`, that one
-- of the three cases holds of every trace, and `judgement_rows`, by which rows an event is refused. Assumes nothing.
use Prim.Native.Nat.{ℕ, zero, suc, ◌<◌, ◌≤◌}
use mathlib.Core.Path.{◌≡◌, refl, sym, subst, ◌∙◌}
use mathlib.Core.Bool.{false}
use mathlib.Core.Option.{Option, none, some}
use mathlib.Core.List.{List}
use mathlib.Core.Logic.{◌⊎◌, inl, inr}
use native.Mathlib.Omega.{arith}
use Rattle.trace.specs.Trace.{Trace, trace_of}
use Rattle.trace.specs.Line.{Line, Checked, passes, fails, halt_operand, line_after}
use Rattle.trace.specs.Graph.{Reach, here, graph_events}
use Rattle.trace.specs.Race.{Conflict, Race}
use Rattle.trace.specs.Search.{least_below, reach?, race?}
use Rattle.trace.specs.Outcome.{Reply, says, refused, Verdict, clean, race, or_else, race_with, partner, failure_at, first_failure, at_end, or_at_end, judgement, sizes, order_room, judge_checked, judge_outcome}
use Rattle.trace.specs.Demands.{KeepsRules, NoRaceBefore, IsClean, IsRefused, IsRace, Demand2, JudgeDemand2}
use Rattle.trace.proofs.Tests.{by_test, either, lt_or_le, same_or_not, last_or_below, tests_fails, LeastIs, least_is}
use Rattle.trace.proofs.Lines.{passes_not_fails, step_row, line_more, graph_all, kept_not_broken, broken_once, one_row}
use Rattle.trace.proofs.ConflictSymmetry.{conflict_sym}
use Rattle.trace.proofs.Searches.{test_reach_graph, test_race_graph}

-- Exactly one of the three holds of every trace, with one number and position, or one pair.
pub record ExactlyOne (haltRule : Line → ℕ) (tr : Trace) (n : ℕ) : Type 0 where
  pub one_holds : IsClean haltRule tr n ⊎ ((number : ℕ) × (p : ℕ) × IsRefused haltRule tr n number p) ⊎ ((s : ℕ) × (t : ℕ) × IsRace haltRule tr n s t)
  pub clean_or_refused : (number p : ℕ) → IsClean haltRule tr n → IsRefused haltRule tr n number p → ⊥
  pub clean_or_race : (s t : ℕ) → IsClean haltRule tr n → IsRace haltRule tr n s t → ⊥
  pub refused_or_race : (number p s t : ℕ) → IsRefused haltRule tr n number p → IsRace haltRule tr n s t → ⊥
  pub one_refusal : (number p number' p' : ℕ) → IsRefused haltRule tr n number p → IsRefused haltRule tr n number' p' → (number ≡ number') × (p ≡ p')
  pub one_race : (s t s' t' : ℕ) → IsRace haltRule tr n s t → IsRace haltRule tr n s' t' → (s ≡ s') × (t ≡ t')

module _ (haltRule : Line → ℕ) (tr : Trace) (n : ℕ) where
  abbrev graph : ℕ
  graph = graph_events haltRule tr n

  -- ---- what an answer means, and that the computed answer means it

  abbrev Means : Reply Verdict → Type 0
  Means (says clean) = KeepsRules haltRule tr n × NoRaceBefore tr graph n
  Means (says (race s t)) = IsRace haltRule tr n s t
  Means (refused number p) = IsRefused haltRule tr n number p

  -- the first t events, with the failure among them
  abbrev Decided : ℕ → Option (Reply Verdict) → Type 0
  Decided t none = KeepsRules haltRule tr t × NoRaceBefore tr graph t
  Decided t (some reply) = Means reply

  no_race_more : (t : ℕ) → NoRaceBefore tr graph t → ((s : ℕ) → s < t → race? tr graph s t ≡ false) → NoRaceBefore tr graph (suc t)
  no_race_more t before none-at p q h i r =
      either (last_or_below q t i)
      (λ e. tests_fails _ (test_race_graph haltRule tr n p t) (none-at p (omega arith)) (subst (λ (z : ℕ). Race tr graph p z) e r))
      (λ j. before p q h j r)

  decided_race :
      (t : ℕ) → t < n → KeepsRules haltRule tr (suc t) → NoRaceBefore tr graph t → (o : Option ℕ) → LeastIs t (λ s. race? tr graph s t) o
      → Decided (suc t) (race_with t o)
  unfolding race_with
  decided_race t h k before none L = (k, no_race_more t before L)
  decided_race t h k before (some s) L =
      record {
        inside = h;
        before = L.below;
        keeps_rules = k;
        pair = (test_race_graph haltRule tr n s t).0 L.passed;
        first = before;
        earliest = λ p i. tests_fails _ (test_race_graph haltRule tr n p t) (L.none_before p i);
      }

  decided_event :
      (t : ℕ) → t < n → KeepsRules haltRule tr t → NoRaceBefore tr graph t → (c : Checked Line) → line_after haltRule tr (suc t) ≡ c
      → Decided (suc t) (failure_at haltRule tr n t c)
  unfolding failure_at partner
  decided_event t h k before (passes line) e =
      decided_race t h (record { line = line; reached = e }) before (least_below t (λ s. race? tr graph s t)) (least_is t (λ s. race? tr graph s t))
  decided_event t h k before (fails number) e =
      record {
        inside = h;
        breaks_first =
            record { line = k.line; kept_before = k.reached; broken = sym (line_more haltRule tr t k.line k.reached) ∙ e };
        no_race = before;
      }

  decided_more :
      (t : ℕ) → t < n → (o : Option (Reply Verdict)) → Decided t o
      → Decided (suc t) (or_else o (failure_at haltRule tr n t (line_after haltRule tr (suc t))))
  unfolding or_else
  decided_more t h (some reply) d = d
  decided_more t h none d = decided_event t h d.0 d.1 (line_after haltRule tr (suc t)) refl

  decided : (t : ℕ) → t ≤ n → Decided t (first_failure haltRule tr n t)
  unfolding first_failure line_after
  decided zero h = (record { line = _; reached = refl }, λ p q i j. absurd (omega arith))
  decided (suc t) h = decided_more t h (first_failure haltRule tr n t) (decided t (omega arith))

  means_end : (o : Option (Reply Verdict)) → Decided n o → Means (or_at_end haltRule tr n o)
  unfolding or_at_end at_end
  means_end none d = d
  means_end (some reply) d = d

  judgement_means : Means (judgement haltRule tr n)
  unfolding judgement
  judgement_means = means_end (first_failure haltRule tr n n) (decided n (omega arith))

  -- ---- no race is: every two conflicting accesses are connected

  connected_up : NoRaceBefore tr graph n → graph ≡ n → (p q : ℕ) → p < q → Conflict tr graph p q → Reach tr graph p q ⊎ Reach tr graph q p
  connected_up calm whole p q h c =
      by_test (reach? tr graph p q) (λ e. inl ((test_reach_graph haltRule tr n p q).0 e))
      (λ e.
      by_test (reach? tr graph q p) (λ f. inr ((test_reach_graph haltRule tr n q p).0 f))
      (λ f.
      let i = c.second_event in
      absurd
      (calm p q h (omega arith)
      (record {
        conflict = c;
        not_forth = tests_fails _ (test_reach_graph haltRule tr n p q) e;
        not_back = tests_fails _ (test_reach_graph haltRule tr n q p) f;
      }))))

  means_clean : KeepsRules haltRule tr n → NoRaceBefore tr graph n → IsClean haltRule tr n
  means_clean k calm =
      let whole : graph ≡ n = graph_all haltRule tr n k.line k.reached in
      record { keeps_rules = k; connected = λ p q c. pair whole p q c (lt_or_le p q) }
    where
      pair : graph ≡ n → (p q : ℕ) → Conflict tr graph p q → (p < q) ⊎ (q ≤ p) → Reach tr graph p q ⊎ Reach tr graph q p
      pair whole p q c (inl h) = connected_up calm whole p q h c
      pair whole p q c (inr h) =
          either (same_or_not p q) (λ e. inl (here c.second_event e))
          (λ d. either (connected_up calm whole q p (omega arith) (conflict_sym tr graph c)) (λ path. inr path) (λ path. inl path))

  clean_calm : IsClean haltRule tr n → (s t : ℕ) → Race tr graph s t → ⊥
  clean_calm c s t r = either (c.connected s t r.conflict) r.not_forth r.not_back

  -- ---- each meaning has only its own answer

  answer_clean : IsClean haltRule tr n → (reply : Reply Verdict) → Means reply → reply ≡ says clean
  answer_clean c (says clean) m = refl
  answer_clean c (says (race s t)) m = absurd (clean_calm c s t m.pair)
  answer_clean c (refused number p) m = absurd (kept_not_broken haltRule tr n p number m.inside c.keeps_rules m.breaks_first)

  race_not_refused : (s t number p : ℕ) → IsRace haltRule tr n s t → IsRefused haltRule tr n number p → ⊥
  race_not_refused s t number p r b =
      either (lt_or_le p (suc t)) (λ h. kept_not_broken haltRule tr (suc t) p number h r.keeps_rules b.breaks_first)
      (λ h. b.no_race s t r.before (omega arith) r.pair)

  answer_refused : (number p : ℕ) → IsRefused haltRule tr n number p → (reply : Reply Verdict) → Means reply → reply ≡ refused number p
  answer_refused number p b (says clean) m = absurd (kept_not_broken haltRule tr n p number b.inside m.0 b.breaks_first)
  answer_refused number p b (says (race s t)) m = absurd (race_not_refused s t number p m b)
  answer_refused number p b (refused number' p') m =
      let e : p' ≡ p = broken_once haltRule tr p' p number' number m.breaks_first b.breaks_first in
      let f : number' ≡ number = one_row haltRule tr p number' number (rw e at m.breaks_first) b.breaks_first in
      cc

  answer_race : (s t : ℕ) → IsRace haltRule tr n s t → (reply : Reply Verdict) → Means reply → reply ≡ says (race s t)
  answer_race s t r (says clean) m = absurd (m.1 s t r.before r.inside r.pair)
  answer_race s t r (refused number p) m = absurd (race_not_refused s t number p r m)
  answer_race s t r (says (race s' t')) m =
      let below : t < t' → ⊥ = λ h. m.first s t r.before h r.pair in
      let above : t' < t → ⊥ = λ h. r.first s' t' m.before h m.pair in
      let e : t' ≡ t = omega arith in
      let pair' : Race tr graph s' t = rw e at m.pair in
      let lower : s < s' → ⊥ = λ h. m.earliest s h (rw (← e) at r.pair) in
      let upper : s' < s → ⊥ = λ h. r.earliest s' h pair' in
      let f : s' ≡ s = omega arith in
      cc

  means_is : (reply : Reply Verdict) → judgement haltRule tr n ≡ reply → Means reply
  means_is reply e = subst (λ (r : Reply Verdict). Means r) e judgement_means

  -- Exactly one of the three holds.
  pub exactly_one : ExactlyOne haltRule tr n
  exactly_one =
      record {
        one_holds = one (judgement haltRule tr n) judgement_means;
        clean_or_refused = λ number p c b. kept_not_broken haltRule tr n p number b.inside c.keeps_rules b.breaks_first;
        clean_or_race = λ s t c r. clean_calm c s t r.pair;
        refused_or_race = λ number p s t b r. race_not_refused s t number p r b;
        one_refusal = λ number p number' p' b b'. two (answer_refused number p b (refused number' p') b');
        one_race = λ s t s' t' r r'. both (answer_race s t r (says (race s' t')) r');
      }
    where
      one : (reply : Reply Verdict) → Means reply → IsClean haltRule tr n ⊎ ((number : ℕ) × (p : ℕ) × IsRefused haltRule tr n number p) ⊎ ((s : ℕ) × (t : ℕ) × IsRace haltRule tr n s t)
      one (says clean) m = inl (means_clean m.0 m.1)
      one (says (race s t)) m = inr (inr (s, t, m))
      one (refused number p) m = inr (inl (number, p, m))

      two : {number p number' p' : ℕ} → ◌≡◌ {A = Reply Verdict} (refused number' p') (refused number p) → (number ≡ number') × (p ≡ p')
      two e = (cc, cc)

      both : {s t s' t' : ℕ} → ◌≡◌ {A = Reply Verdict} (says (race s' t')) (says (race s t)) → (s ≡ s') × (t ≡ t')
      both e = (cc, cc)

  -- Where all events keep the rules and none races with an earlier one, the answer is clean.
  pub judgement_clean : KeepsRules haltRule tr n → NoRaceBefore tr graph n → judgement haltRule tr n ≡ says clean
  judgement_clean k calm = answer_clean (means_clean k calm) (judgement haltRule tr n) judgement_means

  -- DEMAND 2.
  pub demand_2 : Demand2 haltRule tr n (judgement haltRule tr n)
  demand_2 =
      record {
        clean_iff =
            (λ e. let m = means_is (says clean) e in means_clean m.0 m.1, λ c. answer_clean c (judgement haltRule tr n) judgement_means);
        refused_iff = λ number p. (means_is (refused number p), λ b. answer_refused number p b (judgement haltRule tr n) judgement_means);
        race_iff = λ s t. (means_is (says (race s t)), λ r. answer_race s t r (judgement haltRule tr n) judgement_means);
      }

  -- An event is refused by one of the rows 5 to 12.
  pub judgement_rows : (number p : ℕ) → judgement haltRule tr n ≡ refused number p → (5 ≤ number) × (number ≤ 12)
  judgement_rows number p e =
      let b = (means_is (refused number p) e).breaks_first in step_row haltRule tr p number b.line b.broken

module _ (kinds tasks operands workspace first second : List ℕ) where
  -- Whatever sizes are checked first.
  pub demand_2_checked :
      (c : Checked ℕ) (n : ℕ) → c ≡ passes n
      → Demand2 halt_operand (trace_of kinds tasks operands) n (judge_checked kinds tasks operands workspace first second c).answer
  unfolding judge_checked
  demand_2_checked (fails number) n e = absurd (passes_not_fails e refl)
  demand_2_checked (passes m) n e = let same : m ≡ n = cc in rw same (demand_2 halt_operand (trace_of kinds tasks operands) n)

  -- DEMAND 2 of the judge's outcome, for everything that can be lent.
  pub judge_demand_2 : JudgeDemand2 kinds tasks operands workspace first second (judge_outcome kinds tasks operands workspace first second).answer
  unfolding judge_outcome
  judge_demand_2 = record { past_sizes = λ n e. demand_2_checked (order_room first second (sizes kinds tasks operands workspace)) n e }
