-- THE ORDERING CALL. Past rows 1 to 3 it says yes exactly if the whole trace keeps the line rules, p and q are events, and p reaches q; no exactly if
-- the first two hold and p does not reach q; it refuses by row 13 exactly if the rules are kept and p or q is no event, and by a row from 5 to 12
-- exactly at the first event that breaks a rule. The last declaration says it of the call's outcome, for everything that can be lent. Assumes nothing.
use Prim.Native.Nat.{ℕ, ◌<◌, ◌≤◌}
use mathlib.Core.Path.{◌≡◌, refl, subst}
use mathlib.Core.Bool.{Bool, true, false, not, ◌&&◌}
use mathlib.Core.List.{List}
use mathlib.Core.Logic.{◌⊎◌, inl, inr}
use native.Mathlib.Omega.{arith}
use lib.Dec.{ltb}
use borrow.Author.Tests.{lt-ltb, le-ltb}
use Rattle.trace.specs.Trace.{Trace, trace_of}
use Rattle.trace.specs.Line.{Line, Checked, passes, fails, row, halt_operand, line_after}
use Rattle.trace.specs.Graph.{Reach}
use Rattle.trace.specs.Search.{reach?}
use Rattle.trace.specs.Outcome.{Reply, says, refused, sizes, ordering_said, ordering, ordering_checked, ordering_outcome}
use Rattle.trace.specs.Demands.{KeepsRules, BreaksFirst, OrderingDemand, OrderingCallDemand}
use Rattle.trace.proofs.Tests.{either, by_test, lt_or_le, tests_fails}
use Rattle.trace.proofs.Lines.{passes_not_fails, step_row, kept_not_broken, broken_once, one_row, broken_at_graph}
use Rattle.trace.proofs.Forward.{forward}
use Rattle.trace.proofs.Searches.{test_reach}

module _ (tr : Trace) (n p q : ℕ) where
  -- ---- what an answer means, and that the computed answer means it

  abbrev Beyond : Type 0
  Beyond = KeepsRules halt_operand tr n × ((n ≤ p) ⊎ (n ≤ q))

  abbrev Means : Reply Bool → Type 0
  Means (says true) = KeepsRules halt_operand tr n × (p < n) × (q < n) × Reach tr n p q
  Means (says false) = KeepsRules halt_operand tr n × (p < n) × (q < n) × (Reach tr n p q → ⊥)
  Means (refused number k) = ((number ≡ 13) × (k ≡ 0) × Beyond) ⊎ ((k < n) × BreaksFirst halt_operand tr k number)

  means_said : KeepsRules halt_operand tr n → p < n → q < n → Means (says (reach? tr n p q))
  means_said k hp hq =
      let t = test_reach tr n (forward halt_operand tr n k.line k.reached) p q in
      by_test (reach? tr n p q) (λ e. rw e (k, hp, hq, t.0 e)) (λ e. rw e (k, hp, hq, tests_fails _ t e))

  means_row : KeepsRules halt_operand tr n → Means (ordering_said (row 13 (not (ltb p n && ltb q n)) (passes (reach? tr n p q))))
  unfolding row ordering_said
  means_row k =
      either (lt_or_le p n)
      (λ hp.
      either (lt_or_le q n) (λ hq. rw (lt-ltb p n hp, lt-ltb q n hq) (means_said k hp hq))
      (λ hq. rw (lt-ltb p n hp, le-ltb q n hq) (inl (refl, refl, (k, inr hq)))))
      (λ hp. rw (le-ltb p n hp) (inl (refl, refl, (k, inl hp))))

  means : (c : Checked Line) → line_after halt_operand tr n ≡ c → Means (ordering tr n p q c)
  unfolding ordering
  means (passes line) e = means_row (record { line = line; reached = e })
  means (fails number) e = inr (broken_at_graph halt_operand tr n number e)

  abbrev answer : Reply Bool
  answer = ordering tr n p q (line_after halt_operand tr n)

  answer_means : Means answer
  answer_means = means (line_after halt_operand tr n) refl

  means_is : (reply : Reply Bool) → answer ≡ reply → Means reply
  means_is reply e = subst (λ (r : Reply Bool). Means r) e answer_means

  -- ---- each meaning has only its own answer

  kept_refused : (number k : ℕ) → KeepsRules halt_operand tr n → Means (refused number k) → (number ≡ 13) × (k ≡ 0) × Beyond
  kept_refused number k kept (inl b) = b
  kept_refused number k kept (inr w) = absurd (kept_not_broken halt_operand tr n k number w.0 kept w.1)

  inside_refused : (number k : ℕ) → KeepsRules halt_operand tr n → p < n → q < n → Means (refused number k) → ⊥
  inside_refused number k kept hp hq m =
      either (kept_refused number k kept m).2.1 (λ h. omega arith) (λ h. omega arith)

  answer_yes : Means (says true) → (reply : Reply Bool) → Means reply → reply ≡ says true
  answer_yes w (says true) m = refl
  answer_yes w (says false) m = absurd (m.3 w.3)
  answer_yes w (refused number k) m = absurd (inside_refused number k w.0 w.1 w.2 m)

  answer_no : Means (says false) → (reply : Reply Bool) → Means reply → reply ≡ says false
  answer_no w (says true) m = absurd (w.3 m.3)
  answer_no w (says false) m = refl
  answer_no w (refused number k) m = absurd (inside_refused number k w.0 w.1 w.2 m)

  answer_beyond : Beyond → (reply : Reply Bool) → Means reply → reply ≡ refused 13 0
  answer_beyond w (says true) m = absurd (inside_refused 13 0 w.0 m.1 m.2 (inl (refl, refl, w)))
  answer_beyond w (says false) m = absurd (inside_refused 13 0 w.0 m.1 m.2 (inl (refl, refl, w)))
  answer_beyond w (refused number k) m = let b = kept_refused number k w.0 m in cc (b.0, b.1)

  answer_broken : (number k : ℕ) → (k < n) × BreaksFirst halt_operand tr k number → (reply : Reply Bool) → Means reply → reply ≡ refused number k
  answer_broken number k w (says true) m = absurd (kept_not_broken halt_operand tr n k number w.0 m.0 w.1)
  answer_broken number k w (says false) m = absurd (kept_not_broken halt_operand tr n k number w.0 m.0 w.1)
  answer_broken number k w (refused number' k') (inl b) = absurd (kept_not_broken halt_operand tr n k number w.0 b.2.0 w.1)
  answer_broken number k w (refused number' k') (inr w') =
      let e : k' ≡ k = broken_once halt_operand tr k' k number' number w'.1 w.1 in
      let f : number' ≡ number = one_row halt_operand tr k number' number (rw e at w'.1) w.1 in
      cc

  broken_row : (number k : ℕ) → (k < n) × BreaksFirst halt_operand tr k number → (5 ≤ number) × (number ≤ 12)
  broken_row number k w = step_row halt_operand tr k number w.1.line w.1.broken

  -- The ordering call's answer about the first n events.
  pub ordering_demand : OrderingDemand tr n p q answer
  ordering_demand =
      record {
        yes_iff = (means_is (says true), λ w. answer_yes w answer answer_means);
        no_iff = (means_is (says false), λ w. answer_no w answer answer_means);
        beyond_iff = (
          λ e. either (means_is (refused 13 0) e) (λ b. b.2) (λ w. absurd (omega (arith, broken_row 13 0 w))),
          λ w. answer_beyond w answer answer_means,
        );
        refused_iff = λ number k h. (
          λ e. either (means_is (refused number k) e) (λ b. absurd (omega (arith, b.0))) (λ w. w),
          λ w. answer_broken number k w answer answer_means,
        );
      }

  -- It is refused by one of the rows 5 to 12, or by 13 at 0.
  pub ordering_rows : (number k : ℕ) → answer ≡ refused number k → ((5 ≤ number) × (number ≤ 12)) ⊎ ((number ≡ 13) × (k ≡ 0))
  ordering_rows number k e = either (means_is (refused number k) e) (λ b. inr (b.0, b.1)) (λ w. inl (broken_row number k w))

module _ (kinds tasks operands workspace : List ℕ) (p q : ℕ) where
  demand_checked : (c : Checked ℕ) (n : ℕ) → c ≡ passes n
      → OrderingDemand (trace_of kinds tasks operands) n p q (ordering_checked kinds tasks operands workspace p q c).answer
  unfolding ordering_checked
  demand_checked (fails number) n e = absurd (passes_not_fails e refl)
  demand_checked (passes m) n e = let same : m ≡ n = cc in rw same (ordering_demand (trace_of kinds tasks operands) n p q)

  -- THE ORDERING CALL, for everything that can be lent.
  pub ordering_call_demand : OrderingCallDemand kinds tasks operands workspace p q (ordering_outcome kinds tasks operands workspace p q).answer
  unfolding ordering_outcome
  ordering_call_demand = record { past_sizes = λ n e. demand_checked (sizes kinds tasks operands workspace) n e }
