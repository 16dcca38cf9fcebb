-- What a caller of the judge hears is its answer and the number beside it, so that the owner's demands and K2 hold of them. Assumes nothing.
use Prim.Native.Nat.{ℕ}
use mathlib.Core.Path.{◌≡◌, refl, sym, ap, ◌∙◌}
use mathlib.Core.List.{List}
use Rattle.std.specs.Prelude.{Result}
use Rattle.trace.specs.declared.Verdict as answers
use Rattle.trace.specs.declared.Refusal.{Refusal}
use Rattle.trace.specs.Outcome.{Reply, says, refused, Verdict, clean, race, Outcome, judge_outcome}
use Rattle.trace.specs.Demands.{JudgeDemand1, JudgeDemand2, JudgeDemand3, JudgeLinks}
use Rattle.trace.proofs.Demand1.{judge_demand_1}
use Rattle.trace.proofs.Demand2.{judge_demand_2}
use Rattle.trace.proofs.Demand3.{judge_demand_3}
use Rattle.chains.proofs.Reported.{judge_links_law}
use Rattle.judge.specs.Entry.{judge_gives}
use Rattle.told.specs.Codes.{Told, judge_told, heard, heard_links, judge_call, judge_seen, Tells, TellsVerdict}
use Rattle.told.proofs.Replies.{told_verdict}

heard_told : (reply : Reply Verdict) (links : ℕ) → heard (judge_told reply links).code (judge_told reply links).values ≡ reply
unfolding heard judge_told
heard_told (says clean) links = refl
heard_told (says (race s t)) links = refl
heard_told (refused number position) links = refl

links_told : (reply : Reply Verdict) (links : ℕ) → heard_links (judge_told reply links).values ≡ links
unfolding heard_links judge_told
links_told (says clean) links = refl
links_told (says (race s t)) links = refl
links_told (refused number position) links = refl

-- What is seen of a call, and the outcome that it asks for.
module _ {code : ℕ} {values workspace first second : List ℕ} (o : Outcome) (e : judge_seen code values workspace first second ≡ judge_call o) where
  pub seen_said : ◌≡◌ {A = Told} (record { code = code; values = values }) (judge_told o.answer o.links)
  unfolding judge_call
  seen_said = ap (λ c. c.said) e

  pub seen_heard : heard code values ≡ o.answer
  seen_heard = ap (λ (t : Told). heard t.code t.values) seen_said ∙ heard_told o.answer o.links

  pub seen_links : heard_links values ≡ o.links
  seen_links = ap (λ (t : Told). heard_links t.values) seen_said ∙ links_told o.answer o.links

  pub seen_workspace : workspace ≡ o.workspace
  unfolding judge_call
  seen_workspace = ap (λ c. c.workspace) e

  pub seen_first : first ≡ o.first
  unfolding judge_call
  seen_first = ap (λ c. c.first) e

  pub seen_second : second ≡ o.second
  unfolding judge_call
  seen_second = ap (λ c. c.second) e

module _ (kinds tasks operands workspace first second : List ℕ) (code : ℕ) (values w a₁ a₂ : List ℕ) where
  -- What the judge promises a C caller.
  abbrev Promised : Type 0
  Promised =
      (judge_seen code values w a₁ a₂ ≡ judge_call (judge_outcome kinds tasks operands workspace first second))
      × (JudgeDemand1 kinds tasks operands workspace first second (heard code values) w a₁ a₂
      × (JudgeDemand2 kinds tasks operands workspace first second (heard code values)
      × (JudgeDemand3 kinds tasks operands (heard code values) first second a₁ a₂
      × JudgeLinks kinds tasks operands (heard code values) (heard_links values))))

  pub promised : judge_seen code values w a₁ a₂ ≡ judge_call (judge_outcome kinds tasks operands workspace first second) → Promised
  promised e = (
    e,
    rw (seen_heard _ e, seen_links _ e, seen_workspace _ e, seen_first _ e, seen_second _ e) (
      judge_demand_1 kinds tasks operands workspace first second,
      (
        judge_demand_2 kinds tasks operands workspace first second,
        (judge_demand_3 kinds tasks operands workspace first second, judge_links_law kinds tasks operands workspace first second),
      ),
    ),
  )

-- So promises what tells its answer.
module _ (kinds tasks operands workspace first second : List ℕ) {code : ℕ} {values w a₁ a₂ : List ℕ} (answer : Result answers.Verdict Refusal) where
  pub promised_told :
      judge_gives answer w a₁ a₂ ≡ judge_outcome kinds tasks operands workspace first second → Tells 3 TellsVerdict answer code values
      → Promised kinds tasks operands workspace first second code values w a₁ a₂
  unfolding judge_gives judge_call
  promised_told e told = promised kinds tasks operands workspace first second code values w a₁ a₂ (rw (sym e) (cc (told_verdict _ _ answer told)))
