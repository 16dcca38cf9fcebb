-- One law for each `return` of the functions that read a token: which row of the reader's definition holds there. The premises stand as the callees' promises
-- do. Assumes nothing.
use Prim.Native.Nat.{ℕ, ◌+◌, ◌-◌}
use mathlib.Core.Path.{◌≡◌, refl}
use mathlib.Core.Bool.{true, false}
use mathlib.Core.List.{List, [], ◌∷◌}
use mathlib.Core.Option.{none, some}
use lib.Dec.{eqb}
use lib.ListN.{length, take, drop, length-drop}
use lib.Seq.{take-length}
use Rattle.std.proofs.lemmas.List.{drop-drop}
use Rattle.std.specs.Prelude.{cond}
use Rattle.std.specs.Cmp.Lexicographic.{pointwise}
use Rattle.trace.proofs.Tests.{by_test}
use Rattle.numbers.specs.Reading.{number}
use Rattle.form.specs.Form.{GREATEST}
use Rattle.form.specs.Reading.{word, operation, field, line}
use Rattle.form.specs.declared.Operation.{Operation}

-- ---- `word`

word_stripped : (p s : List ℕ) → word p s ≡ cond (pointwise eqb (take (length p) s) p) (some (drop (length p) s)) none
word_stripped [] s = refl
word_stripped (w ∷ ws) [] = refl
word_stripped (w ∷ ws) (b ∷ s) = by_test (eqb b w) (λ e. rw e (word_stripped ws s)) (λ e. rw e)

-- The slice from `at` on is cut to the length that it has.
cut : (at : ℕ) (text : List ℕ) → take (length text - at) (drop at text) ≡ drop at text
cut at text = rw (← length-drop at text) (take-length (drop at text))

-- By what `strip_prefix` ensures: nothing, or what is past the word.
module _ (p text : List ℕ) (at : ℕ) where
  pub word_missed : pointwise eqb (take (length p) (take (length text - at) (drop at text))) p ≡ false → none ≡ word p (drop at text)
  word_missed e = let q = rw (cut at text) at e in rw (word_stripped p (drop at text), q)

  pub word_matched :
      pointwise eqb (take (length p) (take (length text - at) (drop at text))) p ≡ true → some (drop (at + length p) text) ≡ word p (drop at text)
  word_matched e = let q = rw (cut at text) at e in rw (word_stripped p (drop at text), q, drop-drop (length p) at text)

-- ---- `field`: a number between two words

module _ (before after s : List ℕ) where
  pub field_before : none ≡ word before s → none ≡ field before after s
  unfolding field
  field_before e = rw (← e)

  module _ (s₁ : List ℕ) (past_before : some s₁ ≡ word before s) where
    pub field_number : none ≡ number GREATEST s₁ → none ≡ field before after s
    unfolding field
    field_number e = rw (← past_before, ← e)

    module _ (v : ℕ) (s₂ : List ℕ) (past_number : some (v, s₂) ≡ number GREATEST s₁) where
      pub field_after : none ≡ word after s₂ → none ≡ field before after s
      unfolding field
      field_after e = rw (← past_before, ← past_number, ← e)

      pub field_whole : (s₃ : List ℕ) → some s₃ ≡ word after s₂ → some (v, s₃) ≡ field before after s
      unfolding field
      field_whole s₃ e = rw (← past_before, ← past_number, ← e)

-- ---- `line`

module _ (s : List ℕ) where
  pub line_task : none ≡ field (84 ∷ []) (124 ∷ []) s → none ≡ line s
  unfolding line
  line_task e = rw (← e)

  module _ (task : ℕ) (s₁ : List ℕ) (past_task : some (task, s₁) ≡ field (84 ∷ []) (124 ∷ []) s) where
    pub line_operation : none ≡ operation s₁ → none ≡ line s
    unfolding line
    line_operation e = rw (← past_task, ← e)

    module _ (o : Operation) (s₂ : List ℕ) (past_opening : some (o, s₂) ≡ operation s₁) where
      pub line_operand : none ≡ field [] (41 ∷ 124 ∷ []) s₂ → none ≡ line s
      unfolding line
      line_operand e = rw (← past_task, ← past_opening, ← e)

      module _ (operand : ℕ) (s₃ : List ℕ) (past_operand : some (operand, s₃) ≡ field [] (41 ∷ 124 ∷ []) s₂) where
        pub line_source : none ≡ field [] (10 ∷ []) s₃ → none ≡ line s
        unfolding line
        line_source e = rw (← past_task, ← past_opening, ← past_operand, ← e)

        pub line_whole : (source : ℕ) (s₄ : List ℕ) → some (source, s₄) ≡ field [] (10 ∷ []) s₃
            → some (record { task = task; operation = o; operand = operand; source = source }, s₄) ≡ line s
        unfolding line
        line_whole source s₄ e = rw (← past_task, ← past_opening, ← past_operand, ← e)
