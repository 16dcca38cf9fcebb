-- The ordering call's answer: what the rules and the numbers say of p and q is what document 01 answers. Assumes nothing.
use Prim.Native.Nat.{ℕ, ◌<◌, ◌≤◌}
use Rattle.std.specs.Prelude.{Ok, None, Some}
use mathlib.Core.Path.{◌≡◌, refl, sym, ap, ◌∙◌}
use mathlib.Core.Bool.{Bool, true, false, ◌&&◌, false≢true}
use mathlib.Core.List.{List}
use mathlib.Core.Logic.{◌⊎◌}
use native.Mathlib.Omega.{arith}
use lib.Dec.{ltb, leb}
use borrow.Author.Tests.{leb-true, le-leb}
use Rattle.trace.specs.Line.{row, halt_operand}
use Rattle.trace.specs.Search.{reach?}
use Rattle.trace.specs.Outcome.{Reply, says, refused, ordering_said, ordering}
use Rattle.trace.specs.Rows.{row_number}
use Rattle.trace.specs.declared.Row.{Row}
use Rattle.trace.specs.Answers.{ordering_reply}
use Rattle.trace.proofs.Tests.{either, Tests, tests_false, tests_map, tests_unique, test_and, test_lt}
use Rattle.trace.proofs.Lines.{step_row}
use Rattle.trace.proofs.Searches.{test_reach}
use Rattle.trace.proofs.Numbers.{Numbers, reach_by_number}
use Rattle.trace.proofs.OrderingCall.{ordering_demand}
use Rattle.ranks.specs.declared.Ranked.{Ranked}
use Rattle.ranks.specs.States.{own_number}
use Rattle.ordering.specs.Asks.{ReachesByNumber, AnswerSays}

-- ---- the leaves

module _ (kinds : List ℕ) (p q : ℕ) (c : List ℕ) where
  pub reaches_back : q < p → Tests false (ReachesByNumber kinds c p q)
  reaches_back h = (λ e. absurd (false≢true e), λ both. absurd (omega (arith, both.0)))

  pub reaches_forth : (a b : ℕ) → p ≤ q → a ≡ own_number kinds c p → b ≡ own_number kinds c q → Tests (leb a b) (ReachesByNumber kinds c p q)
  reaches_forth a b h e f = (λ t. (h, omega (arith, leb-true a b t)), λ both. le-leb a b (omega (arith, both.1)))

-- Both are positions of a trace of n events.
test_positions : (n p q : ℕ) → Tests (ltb p n && ltb q n) ((p < n) × (q < n))
test_positions n p q = test_and _ _ (test_lt p n) (test_lt q n)

pub both_below : (n p q : ℕ) → true ≡ ltb p n && ltb q n → (p < n) × (q < n)
both_below n p q e = (test_positions n p q).0 (sym e)

-- ---- the answer

-- The reply of an answer that is no refusal.
pub replied : (reaches : Bool) → ordering_reply (Ok reaches) ≡ says reaches
unfolding ordering_reply
replied true = refl
replied false = refl

module _ (kinds : List ℕ) (p q : ℕ) (c : List ℕ) (ranked : Ranked) (reply : Reply Bool) where
  -- An event breaks a rule.
  pub says_broken : (row : Row) → ranked.broken ≡ Some row → reply ≡ refused (row_number row) ranked.events → AnswerSays kinds p q c ranked reply
  says_broken row met e =
      record {
        told = λ tr n entry r.
            let b = r.rules.met row met in
            let low = (step_row halt_operand tr ranked.events (row_number row) b.1.line b.1.broken).1 in
            e ∙ sym (((ordering_demand tr n p q).refused_iff (row_number row) ranked.events low).1 b);
      }

  -- None does, and
  module _ (none : ranked.broken ≡ None) where
    -- one of the two is no position;
    pub says_unknown :
        ((p < ranked.events) × (ranked.events ≤ q)) ⊎ (ranked.events ≤ p) → reply ≡ refused 13 0 → AnswerSays kinds p q c ranked reply
    unfolding ordering row ordering_said
    says_unknown beyond e =
        record {
          told = λ tr n entry r.
              let kept = r.rules.none_met none in
              let not_both : (p < n) × (q < n) → ⊥ =
              λ both. either beyond (λ past. omega (arith, kept.0, both.1, past.1)) (λ past. omega (arith, kept.0, both.0, past)) in
              rw (kept.1.reached, ordering, tests_false _ (test_positions n p q) not_both) e;
        }

    -- or both are: the numbers say whether p reaches q.
    pub says_known :
        (reaches : Bool) → p < ranked.events → q < ranked.events → Tests reaches (ReachesByNumber kinds c p q) → reply ≡ says reaches
        → AnswerSays kinds p q c ranked reply
    unfolding ordering row ordering_said
    says_known reaches below_p below_q t e =
        record {
          told = λ tr n entry r.
              let kept = r.rules.none_met none in
              let numbers : Numbers tr n (own_number kinds c) = rw kept.0 at r.numbers in
              let low_p : p < n = omega (arith, kept.0) in
              let low_q : q < n = omega (arith, kept.0) in
              let path = reach_by_number tr n (own_number kinds c) numbers p q low_p low_q in
              let same : reaches ≡ reach? tr n p q = tests_unique reaches _ t (tests_map path.0 path.1 (test_reach tr n numbers.forward p q)) in
              rw (kept.1.reached, ordering, (test_positions n p q).1 (low_p, low_q)) (e ∙ ap says same);
        }
