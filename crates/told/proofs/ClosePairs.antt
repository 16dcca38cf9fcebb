-- What a C caller hears of the call for pairs is its answer, so that what is demanded of it holds of that. Assumes nothing.
use Prim.Native.Nat.{ℕ}
use mathlib.Core.Path.{◌≡◌, refl, sym, ap, subst, ◌∙◌}
use mathlib.Core.List.{List}
use Rattle.std.specs.Prelude.{Result}
use Rattle.trace.specs.declared.Refusal.{Refusal}
use Rattle.trace.specs.Outcome.{Reply, says, refused}
use Rattle.pairs.specs.Pairs.{Slices, slices, PairsOutcome, pairs_gives, pairs_outcome}
use Rattle.pairs.proofs.Demanding.{Demanded, demanded}
use Rattle.told.specs.Codes.{count_told, heard_count, PairsCall, pairs_call, pairs_seen, Tells, TellsCount}
use Rattle.told.proofs.Replies.{told_count}

pub count_heard : (answer : Reply ℕ) → heard_count (count_told answer).code (count_told answer).values ≡ answer
unfolding heard_count count_told
count_heard (says count) = refl
count_heard (refused number position) = refl

-- What the call promises a C caller.
module _ (kinds tasks operands workspace : List ℕ) (b : Slices) (code : ℕ) (values earlier later w : List ℕ) where
  abbrev outcome : PairsOutcome
  outcome = pairs_outcome kinds tasks operands workspace b

  abbrev heard : PairsOutcome
  heard = record { answer = heard_count code values; slices = slices earlier later; workspace = w }

  abbrev Promised : Type 0
  Promised = (pairs_seen code values earlier later w ≡ pairs_call outcome) × Demanded kinds tasks operands workspace b heard

  heard_is : pairs_seen code values earlier later w ≡ pairs_call outcome → heard ≡ outcome
  unfolding pairs_call
  heard_is e =
      let back : PairsCall → PairsOutcome =
      λ c. record { answer = heard_count c.said.code c.said.values; slices = c.slices; workspace = c.workspace } in
      ap back e
      ∙ ap (λ (a : Reply ℕ). record { answer = a; slices = outcome.slices; workspace = outcome.workspace }) (count_heard outcome.answer)

  promised : pairs_seen code values earlier later w ≡ pairs_call outcome → Promised
  promised e =
      (e, subst (λ (out : PairsOutcome). Demanded kinds tasks operands workspace b out) (sym (heard_is e)) (demanded kinds tasks operands workspace b))

-- So promises what tells its answer.
module _ (kinds tasks operands workspace : List ℕ) (b : Slices) {code : ℕ} {values earlier later w : List ℕ} (answer : Result ℕ Refusal) where
  pub promised_told :
      pairs_gives answer earlier later w ≡ pairs_outcome kinds tasks operands workspace b → Tells 2 TellsCount answer code values
      → Promised kinds tasks operands workspace b code values earlier later w
  unfolding pairs_call
  promised_told e told = promised kinds tasks operands workspace b code values earlier later w (rw (sym e) (cc (told_count _ _ answer told)))
