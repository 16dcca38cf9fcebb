-- Outputs to go by, computed: document 01's example, `clean 0`, and a refusal. Assumes nothing.
use Rattle.std.specs.Prelude.{ℕ, ◌≡◌, refl, List, [], ◌∷◌, replicate}
use Rattle.trace.specs.Outcome.{says, refused, clean, Outcome, sizes, order_room, judge_checked, judge_outcome}
use Rattle.trace.proofs.Table.{computed}
use Rattle.numbers.specs.Decimal.{decimal}
use Rattle.output.specs.Output.{order_lines, output}

-- What the judge answers and leaves, of the events of document 01's example: `0 fork 1`, `1 write 5`, `1 halt`, `0 read 5`.
abbrev judged : Outcome
judged =
    judge_outcome (2 ∷ 1 ∷ 4 ∷ 0 ∷ []) (0 ∷ 1 ∷ 1 ∷ 0 ∷ []) (1 ∷ 5 ∷ 0 ∷ 5 ∷ []) (replicate 12292 0) (replicate 4 0) (replicate 4 0)

-- `race 1 3`, `0 1 3 2`, `0 3 1 2`
abbrev example_output : List ℕ
example_output =
    114 ∷ 97 ∷ 99 ∷ 101 ∷ 32 ∷ 49 ∷ 32 ∷ 51 ∷ 10
    ∷ 48 ∷ 32 ∷ 49 ∷ 32 ∷ 51 ∷ 32 ∷ 50 ∷ 10
    ∷ 48 ∷ 32 ∷ 51 ∷ 32 ∷ 49 ∷ 32 ∷ 50 ∷ 10
    ∷ []

-- "the whole output is"
pub example_output_law : output judged.answer 4 judged.first judged.second ≡ example_output
unfolding output order_lines decimal judge_outcome judge_checked order_room sizes computed
example_output_law = refl

-- `clean 0` and `refused 14 3`, with their line feeds.
pub clean_output : output (says clean) 0 [] [] ≡ 99 ∷ 108 ∷ 101 ∷ 97 ∷ 110 ∷ 32 ∷ 48 ∷ 10 ∷ []
unfolding output decimal
clean_output = refl

pub refused_output : output (refused 14 3) 0 [] [] ≡ 114 ∷ 101 ∷ 102 ∷ 117 ∷ 115 ∷ 101 ∷ 100 ∷ 32 ∷ 49 ∷ 52 ∷ 32 ∷ 51 ∷ 10 ∷ []
unfolding output decimal
refused_output = refl
