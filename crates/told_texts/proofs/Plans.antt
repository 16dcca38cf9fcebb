-- What a C caller hears of a plan is the answer of its translation, so that what the text decides, and what the trace is like, hold of it. Assumes nothing.
use Prim.Native.Nat.{ℕ}
use mathlib.Core.Path.{◌≡◌, ap, ◌∙◌}
use mathlib.Core.List.{List}
use Rattle.std.specs.Prelude.{Result}
use Rattle.trace.specs.declared.Refusal.{Refusal}
use Rattle.trace.specs.Outcome.{Reply}
use Rattle.trace.specs.Slices.{Slices, Translated}
use Rattle.trace.specs.Answers.{translated_of}
use Rattle.plan.specs.Decided.{DecidedBy, TracesPlan}
use Rattle.plan.specs.Tracing.{planned}
use Rattle.plan_reader.proofs.Planning.{with_meaning}
use Rattle.told.specs.Codes.{Tells, TellsCount}
use Rattle.told.proofs.ClosePairs.{count_heard}
use Rattle.told_texts.proofs.Seen.{seen_translation}
use Rattle.told_texts.specs.Codes.{heard_trace, translation_call, translate_seen, TranslateCall}

seen_heard : {code : ℕ} {values : List ℕ} {after : Slices} (o : Translated) → translate_seen code values after ≡ translation_call o → heard_trace code values after ≡ o
unfolding translation_call
seen_heard o e = ap (λ (c : TranslateCall). heard_trace c.said.code c.said.values c.slices) e ∙ ap (λ (a : Reply ℕ). record { answer = a; slices = o.slices }) (count_heard o.answer)

-- What the translation of a plan promises a C caller.
module _ (text : List ℕ) (b : Slices) (code : ℕ) (values : List ℕ) (after : Slices) where
  abbrev Promised : Type 0
  Promised =
      (translate_seen code values after ≡ translation_call (planned text b))
      × (DecidedBy text b (heard_trace code values after) × TracesPlan text (heard_trace code values after))

  promised : translate_seen code values after ≡ translation_call (planned text b) → Promised
  promised e = (e, (with_meaning (seen_heard (planned text b) e)).1)

-- So promises what tells its answer.
module _ (text : List ℕ) (b : Slices) {code : ℕ} {values : List ℕ} {after : Slices} (answer : Result ℕ Refusal) where
  pub promised_told : translated_of answer after ≡ planned text b → Tells 2 TellsCount answer code values → Promised text b code values after
  promised_told e told = promised text b code values after (seen_translation answer e told)
