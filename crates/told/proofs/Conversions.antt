-- What a C caller hears of the conversion is its answer, so that what is demanded of it holds of that. Assumes nothing.
use Prim.Native.Nat.{ℕ}
use mathlib.Core.Path.{◌≡◌, refl, sym, ap, subst, ◌∙◌}
use mathlib.Core.List.{List}
use Rattle.std.specs.Prelude.{Result}
use Rattle.trace.specs.declared.Refusal.{Refusal}
use Rattle.trace.specs.Outcome.{Reply, says, refused}
use Rattle.convert.specs.Conversion.{Done, done, ConvertOutcome, convert_gives, convert_outcome}
use Rattle.convert.proofs.Meaning.{Demanded, demanded}
use Rattle.told.specs.Codes.{conversion_told, heard_conversion, ConvertCall, convert_call, convert_seen, Tells, TellsDone}
use Rattle.told.proofs.Replies.{told_done}

heard_told : (answer : Reply Done) → heard_conversion (conversion_told answer).code (conversion_told answer).values ≡ answer
unfolding heard_conversion conversion_told
heard_told (says done) = refl
heard_told (refused number position) = refl

-- What the conversion promises a C caller.
module _ (kinds tasks operands workspace : List ℕ) (code : ℕ) (values o w : List ℕ) where
  abbrev outcome : ConvertOutcome
  outcome = convert_outcome kinds tasks operands workspace

  abbrev heard : ConvertOutcome
  heard = record { answer = heard_conversion code values; operands = o; workspace = w }

  abbrev Promised : Type 0
  Promised = (convert_seen code values o w ≡ convert_call outcome) × Demanded kinds tasks operands workspace heard

  heard_is : convert_seen code values o w ≡ convert_call outcome → heard ≡ outcome
  unfolding convert_call
  heard_is e =
      let back : ConvertCall → ConvertOutcome =
      λ c. record { answer = heard_conversion c.said.code c.said.values; operands = c.operands; workspace = c.workspace } in
      ap back e
      ∙ ap (λ (a : Reply Done). record { answer = a; operands = outcome.operands; workspace = outcome.workspace }) (heard_told outcome.answer)

  promised : convert_seen code values o w ≡ convert_call outcome → Promised
  promised e = (e, subst (λ (out : ConvertOutcome). Demanded kinds tasks operands workspace out) (sym (heard_is e)) (demanded kinds tasks operands workspace))

-- So promises what tells its answer.
module _ (kinds tasks operands workspace : List ℕ) {code : ℕ} {values o w : List ℕ} (answer : Result (Unit {0}) Refusal) where
  pub promised_told :
      convert_gives answer o w ≡ convert_outcome kinds tasks operands workspace → Tells 2 TellsDone answer code values
      → Promised kinds tasks operands workspace code values o w
  unfolding convert_call
  promised_told e told = promised kinds tasks operands workspace code values o w (rw (sym e) (cc (told_done _ _ answer told)))
