-- What a C caller hears of the ordering call is its answer, so that what the call promises of that holds of it. Assumes nothing.
use Prim.Native.Nat.{ℕ}
use mathlib.Core.Path.{◌≡◌, refl, sym, ap, ◌∙◌}
use mathlib.Core.Bool.{Bool, true, false}
use mathlib.Core.List.{List}
use Rattle.std.specs.Prelude.{Result}
use Rattle.trace.specs.declared.Refusal.{Refusal}
use Rattle.trace.specs.Outcome.{Reply, says, refused, OrderingOutcome, ordering_outcome}
use Rattle.trace.specs.Answers.{ordering_reply}
use Rattle.trace.specs.Demands.{OrderingDemand1, OrderingCallDemand}
use Rattle.ordering.specs.Asks.{ordering_gives}
use Rattle.told.specs.Codes.{Told, heard_ordering, ordering_told, ordering_call, ordering_seen, Tells, TellsOrder}
use Rattle.told.proofs.Replies.{told_order}

heard_told : (answer : Reply Bool) → heard_ordering (ordering_told answer).code (ordering_told answer).values ≡ answer
unfolding heard_ordering ordering_told
heard_told (says false) = refl
heard_told (says true) = refl
heard_told (refused number position) = refl

module _ (kinds tasks operands workspace : List ℕ) (p q : ℕ) (answer : Result Bool Refusal) (w : List ℕ) where
  abbrev outcome : OrderingOutcome
  outcome = ordering_outcome kinds tasks operands workspace p q

  abbrev Demanded : Reply Bool → Type 0
  Demanded reply = OrderingDemand1 kinds tasks operands workspace reply w × OrderingCallDemand kinds tasks operands workspace p q reply

  -- What the call promises a C caller.
  abbrev Promised : ℕ → List ℕ → Type 0
  Promised code values = (ordering_seen code values w ≡ ordering_call outcome) × Demanded (heard_ordering code values)

  -- So promises what tells its answer.
  module _ (promise : (ordering_gives answer w ≡ outcome) × Demanded (ordering_reply answer)) {code : ℕ} {values : List ℕ} where
    pub promised_told : Tells 2 TellsOrder answer code values → Promised code values
    unfolding ordering_gives ordering_call
    promised_told told =
        let said = told_order _ _ answer told in
        let heard : heard_ordering code values ≡ ordering_reply answer =
        ap (λ (t : Told). heard_ordering t.code t.values) said ∙ heard_told (ordering_reply answer) in
        (rw (sym promise.0) (cc said), rw heard promise.1)
