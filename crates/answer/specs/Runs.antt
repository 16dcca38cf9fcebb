-- Answers to go by, computed from the bytes of a text to the bytes of the whole output: document 01's example, no text, halts that are added and keep row 12,
-- and a refusal of each kind. Assumes nothing.
use Rattle.std.specs.Prelude.{ℕ, ◌≡◌, refl, List, [], ◌∷◌}
use Rattle.trace.specs.Outcome.{sizes, order_room, judge_checked, judge_outcome}
use Rattle.trace.proofs.Table.{computed as Table·computed}
use Rattle.numbers.specs.Decimal.{decimal}
use Rattle.form.specs.Runs.{computed as Text·computed}
use Rattle.output.specs.Output.{order_lines, output}
use Rattle.answer.specs.Answer.{zeros, judged, judged_events, printed, text_answer}

-- Every definition that `text_answer` computes by: to unfold this one is to unfold them all.
computed : List ℕ → List ℕ
unfolding text_answer printed judged_events judged zeros judge_outcome judge_checked order_room sizes output order_lines decimal Text·computed Table·computed
computed = text_answer

-- `T0|fork(T1)|10`, `T1|w(V5)|20`, `T0|r(V5)|30`: `race 1 3`, `0 1 3 2`, `0 3 1 2`.
pub example_answer :
    text_answer
    (84 ∷ 48 ∷ 124 ∷ 102 ∷ 111 ∷ 114 ∷ 107 ∷ 40 ∷ 84 ∷ 49 ∷ 41 ∷ 124 ∷ 49 ∷ 48 ∷ 10
    ∷ 84 ∷ 49 ∷ 124 ∷ 119 ∷ 40 ∷ 86 ∷ 53 ∷ 41 ∷ 124 ∷ 50 ∷ 48 ∷ 10
    ∷ 84 ∷ 48 ∷ 124 ∷ 114 ∷ 40 ∷ 86 ∷ 53 ∷ 41 ∷ 124 ∷ 51 ∷ 48 ∷ 10
    ∷ [])
    ≡ 114 ∷ 97 ∷ 99 ∷ 101 ∷ 32 ∷ 49 ∷ 32 ∷ 51 ∷ 10
    ∷ 48 ∷ 32 ∷ 49 ∷ 32 ∷ 51 ∷ 32 ∷ 50 ∷ 10
    ∷ 48 ∷ 32 ∷ 51 ∷ 32 ∷ 49 ∷ 32 ∷ 50 ∷ 10
    ∷ []
unfolding computed
example_answer = refl

-- No text: `clean 0`.
pub empty_answer : text_answer [] ≡ 99 ∷ 108 ∷ 101 ∷ 97 ∷ 110 ∷ 32 ∷ 48 ∷ 10 ∷ []
unfolding computed
empty_answer = refl

-- `T0|fork(T1)|1`, `T1|fork(T2)|2`, `T0|r(V5)|3`: `clean 5`. The halts of 2 and 1 that are added name the tasks that resume, 1 and 0.
pub halts_answer :
    text_answer
    (84 ∷ 48 ∷ 124 ∷ 102 ∷ 111 ∷ 114 ∷ 107 ∷ 40 ∷ 84 ∷ 49 ∷ 41 ∷ 124 ∷ 49 ∷ 10
    ∷ 84 ∷ 49 ∷ 124 ∷ 102 ∷ 111 ∷ 114 ∷ 107 ∷ 40 ∷ 84 ∷ 50 ∷ 41 ∷ 124 ∷ 50 ∷ 10
    ∷ 84 ∷ 48 ∷ 124 ∷ 114 ∷ 40 ∷ 86 ∷ 53 ∷ 41 ∷ 124 ∷ 51 ∷ 10
    ∷ [])
    ≡ 99 ∷ 108 ∷ 101 ∷ 97 ∷ 110 ∷ 32 ∷ 53 ∷ 10 ∷ []
unfolding computed
halts_answer = refl

-- `T0|w(V1024)|1`: `refused 8 0`.
pub refused_event_answer : text_answer (84 ∷ 48 ∷ 124 ∷ 119 ∷ 40 ∷ 86 ∷ 49 ∷ 48 ∷ 50 ∷ 52 ∷ 41 ∷ 124 ∷ 49 ∷ 10 ∷ [])
    ≡ 114 ∷ 101 ∷ 102 ∷ 117 ∷ 115 ∷ 101 ∷ 100 ∷ 32 ∷ 56 ∷ 32 ∷ 48 ∷ 10 ∷ []
unfolding computed
refused_event_answer = refl

-- `T0|r(5)|1`: `refused 14 0`.
pub refused_line_answer : text_answer (84 ∷ 48 ∷ 124 ∷ 114 ∷ 40 ∷ 53 ∷ 41 ∷ 124 ∷ 49 ∷ 10 ∷ [])
    ≡ 114 ∷ 101 ∷ 102 ∷ 117 ∷ 115 ∷ 101 ∷ 100 ∷ 32 ∷ 49 ∷ 52 ∷ 32 ∷ 48 ∷ 10 ∷ []
unfolding computed
refused_line_answer = refl
