-- What is told of a translation's answer is what its outcome asks for. Assumes nothing.
use Prim.Native.Nat.{ℕ}
use mathlib.Core.Path.{◌≡◌, sym}
use mathlib.Core.List.{List}
use Rattle.std.specs.Prelude.{Result}
use Rattle.trace.specs.declared.Refusal.{Refusal}
use Rattle.trace.specs.Slices.{Slices, Translated}
use Rattle.trace.specs.Answers.{translated_of}
use Rattle.told.specs.Codes.{Tells, TellsCount}
use Rattle.told.proofs.Replies.{told_count}
use Rattle.told_texts.specs.Codes.{translation_call, translate_seen}

pub seen_translation :
    {code : ℕ} {values : List ℕ} (answer : Result ℕ Refusal) {after : Slices} {o : Translated} → translated_of answer after ≡ o
    → Tells 2 TellsCount answer code values → translate_seen code values after ≡ translation_call o
unfolding translation_call
seen_translation answer e told = rw (sym e) (cc (told_count _ _ answer told))
