-- THE NUMBER BESIDE THE JUDGE'S ANSWER (document 02, K2), of the outcome to everything that can be lent: it is the largest number of links that a task has after
-- the last event looked at, and 0 with a refusal; and after each number of events looked at no task has more than 10. Assumes nothing.
use Prim.Native.Nat.{ℕ, ◌≤◌}
use mathlib.Core.Path.{◌≡◌, refl}
use mathlib.Core.List.{List}
use native.Mathlib.Omega.{arith}
use lib.ListN.{length}
use Rattle.trace.specs.Trace.{Trace, trace_of}
use Rattle.trace.specs.Line.{Checked, passes, fails, halt_operand, start, line_after}
use Rattle.trace.specs.Joins.{MAX_LINKS}
use Rattle.trace.specs.Outcome.{Reply, says, refused, Verdict, clean, race, judgement, sizes, order_room, looked_at, links_beside, Outcome, judge_checked, judge_outcome}
use Rattle.trace.specs.Demands.{KeepsRules, MostLinks, JudgeLinks}
use Rattle.trace.proofs.Lines.{by_check}
use Rattle.trace.proofs.Sizes.{sized_first, refused_not_says}
use Rattle.trace.proofs.Demand2.{demand_2}
use Rattle.trace.proofs.Chains.{longest_most, most_few}
use Rattle.forest.proofs.Joins.{few_links}
use Rattle.chains.proofs.Building.{bounded}

-- The events looked at keep the rules.
module _ (tr : Trace) (n : ℕ) where
  kept_none : KeepsRules halt_operand tr 0
  unfolding line_after
  kept_none = record { line = start; reached = refl }

  kept_looked : (reply : Reply Verdict) → judgement halt_operand tr n ≡ reply → KeepsRules halt_operand tr (looked_at n reply)
  unfolding looked_at
  kept_looked (says clean) e = ((demand_2 halt_operand tr n).clean_iff.0 e).keeps_rules
  kept_looked (says (race s t)) e = (((demand_2 halt_operand tr n).race_iff s t).0 e).keeps_rules
  kept_looked (refused number p) e =
      let broken = (((demand_2 halt_operand tr n).refused_iff number p).0 e).breaks_first in
      record { line = broken.line; reached = broken.kept_before }

  beside_verdict : (reply : Reply Verdict) → judgement halt_operand tr n ≡ reply → (v : Verdict) → reply ≡ says v →
      MostLinks tr (looked_at n reply) (links_beside tr n reply)
  unfolding links_beside
  beside_verdict (says w) e v same = longest_most (few_links (kept_looked (says w) e))
  beside_verdict (refused number p) e v same = absurd (refused_not_says refl same)

  beside_refusal : (reply : Reply Verdict) (number p : ℕ) → reply ≡ refused number p → links_beside tr n reply ≡ 0
  unfolding links_beside
  beside_refusal (says w) number p same = absurd (refused_not_says same refl)
  beside_refusal (refused row q) number p same = refl

  beside_few : (reply : Reply Verdict) → judgement halt_operand tr n ≡ reply → links_beside tr n reply ≤ MAX_LINKS
  beside_few (says v) e = most_few (few_links (kept_looked (says v) e)) (beside_verdict (says v) e v refl)
  beside_few (refused number p) e = omega (arith, beside_refusal (refused number p) number p refl)

module _ (kinds tasks operands workspace first second : List ℕ) where
  abbrev tr : Trace
  tr = trace_of kinds tasks operands

  abbrev Said : Outcome → Type 0
  Said o = JudgeLinks kinds tasks operands o.answer o.links

  said_fails : (number : ℕ) → Said (judge_checked kinds tasks operands workspace first second (fails number))
  unfolding judge_checked looked_at
  said_fails number =
      record {
        bound = bounded (kept_none tr 0);
        at_most = omega arith;
        with_verdict = λ v e. absurd (refused_not_says refl e);
        with_refusal = λ row position e. refl;
      }

  said_passes : (n : ℕ) → length kinds ≡ n → Said (judge_checked kinds tasks operands workspace first second (passes n))
  unfolding judge_checked
  said_passes n whole =
      let reply = judgement halt_operand tr n in
      record {
        bound = rw whole (bounded (kept_looked tr n reply refl));
        at_most = beside_few tr n reply refl;
        with_verdict = λ v e. rw whole (beside_verdict tr n reply refl v e);
        with_refusal = λ number position e. beside_refusal tr n reply number position e;
      }

  -- Whatever sizes are checked first.
  pub links_checked : (c : Checked ℕ) → ((n : ℕ) → c ≡ passes n → length kinds ≡ n) → Said (judge_checked kinds tasks operands workspace first second c)
  links_checked c whole = by_check c (λ n e. rw e (said_passes n (whole n e))) (λ number e. rw e (said_fails number))

  pub judge_links_law : Said (judge_outcome kinds tasks operands workspace first second)
  unfolding judge_outcome
  judge_links_law =
      links_checked (order_room first second (sizes kinds tasks operands workspace))
      (λ n e. (sized_first kinds tasks operands workspace first second n e).of_kinds)
