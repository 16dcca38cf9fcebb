-- LONG TEXTS: the answer to a text is that to its first 53,274 bytes (`answer_take`). So a program that reads no more is right on input of any length.
-- Assumes nothing.
use Prim.Native.Nat.{ℕ, ◌≤◌, ◌<◌}
use native.Mathlib.Omega.{arith}
use mathlib.Core.Path.{◌≡◌}
use mathlib.Core.List.{List, ◌++◌}
use lib.ListN.{length, take}
use lib.Seq.{take_all, take_at}
use Rattle.form.proofs.LongTexts.{TEXT_BYTES, translation_take}
use Rattle.output.specs.Output.{buffer}
use Rattle.answer.specs.Answer.{text_answer, answered, AnswersRead, TextLinks}

pub answer_take : (text : List ℕ) → text_answer text ≡ text_answer (take TEXT_BYTES text)
unfolding text_answer
answer_take text = rw (← translation_take text)

-- So is the buffer.
pub answered_take : (text out : List ℕ) → answered text out ≡ answered (take TEXT_BYTES text) out
unfolding answered
answered_take text out = rw (← answer_take text)

-- ---- the rows of `answer_read`

module _ (read : List ℕ) (count : ℕ) (sized : length read ≡ TEXT_BYTES) where
  take_full : TEXT_BYTES ≤ count → take count read ≡ read
  take_full h = take_all count read (omega arith)

  pub links_full : TEXT_BYTES ≤ count → TextLinks read → TextLinks (take count read)
  links_full h l = rw (take_full h) l

  module _ (out after : List ℕ) (used : ℕ) where
    pub read_part : count < TEXT_BYTES → buffer after used ≡ answered (take count read) out → AnswersRead read count out after used
    read_part h e = record { ends = e; full = λ some rest. absurd (omega arith) }

    pub read_full : TEXT_BYTES ≤ count → buffer after used ≡ answered read out → AnswersRead read count out after used
    read_full h e =
        let all = take_full h in
        record {
          ends = rw all e;
          full = λ some rest. rw (all, answered_take (read ++ rest) out, take_at read rest TEXT_BYTES sized) e;
        }
