-- A run's output is the answer to all of standard input (`ran`): what was read decides, and in a buffer with room the first bytes are the answer. What was
-- taken in leaves one output (`answers_one`); behind a full buffer anything may follow (`anything_follows`). Assumes nothing.
use Prim.Native.Nat.{ℕ}
use native.Mathlib.Omega.{arith}
use mathlib.Core.Path.{◌≡◌, refl, sym, ◌∙◌}
use mathlib.Core.List.{List, [], ◌++◌, append-nil}
use lib.ListN.{length, take}
use Rattle.std.specs.Prelude.{Result, Ok, Err}
use Rattle.input.specs.declared.InputError.{InputError}
use Rattle.input.specs.Reading.{Whole, full, ended, AsRead, Received}
use Rattle.output.specs.Output.{OUTPUT_BYTES}
use Rattle.answer.specs.Answer.{text_answer, AnswersRead}
use Rattle.answer.proofs.Answering.{answered_output}
use Rattle.racejudge.specs.Program.{MayFollow, AnswersInput, Answers, Runs, Responds}

module _ (text out after : List ℕ) (used count : ℕ) (room : length out ≡ OUTPUT_BYTES) (answers : AnswersRead text count out after used) where
  whole_answer : (before bytes : List ℕ) → count ≡ length bytes → take count text ≡ bytes → (whole : Whole before bytes text) (rest : List ℕ)
      → MayFollow whole rest → take used after ≡ text_answer (bytes ++ rest)
  whole_answer before bytes counted held (full e same) rest follows =
      rw held at (answered_output (take count text ++ rest) out after used room (answers.full (omega arith) rest))
  whole_answer before bytes counted held (ended one) rest follows =
      rw (follows, append-nil bytes, ← held) (answered_output (take count text) out after used room answers.ends)

  pub answers_input : (start : List ℕ) → AsRead start text count → AnswersInput start text count (take used after)
  answers_input start read =
      record { read = read; answer = whole_answer read.before read.bytes read.counted read.held read.whole }

pub ran : (words : ℕ) (start text out after : List ℕ) (used : ℕ) (taken : Result ℕ InputError) → length out ≡ OUTPUT_BYTES → Received words start text taken
    → Responds taken text out after used → Runs words start text taken (take used after)
ran words start text out after used (Ok count) room received responds =
    record { received = received; answers = answers_input text out after used count room responds start received.1 }
ran words start text out after used (Err e) room received responds = record { received = received; answers = rw responds.1 }

-- ---- what the promise decides

nothing_follows : {before bytes after : List ℕ} (whole : Whole before bytes after) → MayFollow whole []
nothing_follows (full e same) = tt
nothing_follows (ended one) = refl

pub anything_follows : (before bytes after : List ℕ) (e : length bytes ≡ length after) (same : before ≡ after) (rest : List ℕ)
    → MayFollow {before = before} {bytes = bytes} {after = after} (full e same) rest
anything_follows before bytes after e same rest = tt

-- The output of a text is the answer to the bytes that were counted.
answers_text : (start text : List ℕ) (count : ℕ) (output : List ℕ) → AnswersInput start text count output → output ≡ text_answer (take count text)
answers_text start text count output a =
    let r = a.read in
    a.answer [] (nothing_follows r.whole) ∙ rw (append-nil r.bytes, r.held)

pub answers_one : (start text : List ℕ) (input : Result ℕ InputError) (o₁ o₂ : List ℕ) → Answers start text input o₁ → Answers start text input o₂ → o₁ ≡ o₂
answers_one start text (Ok count) o₁ o₂ a b = answers_text start text count o₁ a ∙ sym (answers_text start text count o₂ b)
answers_one start text (Err e) o₁ o₂ a b = a ∙ sym b
