-- Texts to go by, computed: document 01's example and its events, the implied halts, and a text for each way to be refused. Assumes nothing.
use Rattle.std.specs.Prelude.{ℕ, zero, suc, ◌≡◌, refl, List, [], ◌∷◌, ◌++◌}
use Rattle.trace.specs.Trace.{Event}
use Rattle.trace.specs.Line.{resumed}
use Rattle.trace.specs.Outcome.{Reply, says, refused}
use Rattle.numbers.specs.Decimal.{decimal}
use Rattle.numbers.specs.Reading.{digit, is_whole, is_too_large, extended}
use Rattle.form.specs.Form.{print_all}
use Rattle.form.specs.Reading.{field, line, parse}
use Rattle.form.specs.Events.{events_of, stack_after}
use Rattle.form.specs.Translation.{translation}
use Rattle.form.specs.declared.Line.{Line}
use Rattle.form.specs.declared.Operation.{Operation}
use Rattle.form.specs.declared.Operation.TheVariants.{Read, Write, Fork, Join}

abbrev line_of : ℕ → Operation → ℕ → ℕ → Line
line_of task operation operand source = record { task = task; operation = operation; operand = operand; source = source }

abbrev event : ℕ → ℕ → ℕ → Event
event kind task operand = record { kind = kind; task = task; operand = operand }

-- Every definition that `translation` computes by: to unfold this one is to unfold them all.
unfoldable pub computed : List ℕ → Reply (List Event)
unfolding translation parse line field digit is_whole is_too_large extended decimal events_of resumed stack_after
computed = translation

-- ---- document 01's example

-- `T0|fork(T1)|10`, `T1|w(V5)|20`, `T0|r(V5)|30`
abbrev example : List ℕ
example =
    84 ∷ 48 ∷ 124 ∷ 102 ∷ 111 ∷ 114 ∷ 107 ∷ 40 ∷ 84 ∷ 49 ∷ 41 ∷ 124 ∷ 49 ∷ 48 ∷ 10
    ∷ 84 ∷ 49 ∷ 124 ∷ 119 ∷ 40 ∷ 86 ∷ 53 ∷ 41 ∷ 124 ∷ 50 ∷ 48 ∷ 10
    ∷ 84 ∷ 48 ∷ 124 ∷ 114 ∷ 40 ∷ 86 ∷ 53 ∷ 41 ∷ 124 ∷ 51 ∷ 48 ∷ 10
    ∷ []

pub example_of_form : example ≡ print_all (line_of 0 Fork 1 10 ∷ line_of 1 Write 5 20 ∷ line_of 0 Read 5 30 ∷ [])
unfolding decimal
example_of_form = refl

abbrev example_events : List Event
example_events = event 2 0 1 ∷ event 1 1 5 ∷ event 4 1 0 ∷ event 0 0 5 ∷ []

-- "Event 2 is the implied halt."
pub example_translated : translation example ≡ says example_events
unfolding computed
example_translated = refl

-- ---- implied halts

-- `T0|fork(T1)|1`, `T1|fork(T2)|2`, `T0|r(V5)|3`: the halts of 2 and 1, top first. Each names the task that resumes.
pub halts_top_first : translation (print_all (line_of 0 Fork 1 1 ∷ line_of 1 Fork 2 2 ∷ line_of 0 Read 5 3 ∷ []))
    ≡ says (event 2 0 1 ∷ event 2 1 2 ∷ event 4 2 1 ∷ event 4 1 0 ∷ event 0 0 5 ∷ [])
unfolding computed
halts_top_first = refl

-- `T0|fork(T1)|1`, `T1|fork(T2)|2`, `T2|fork(T3)|3`, `T1|r(V5)|4`: that is the task below. At the halt of 3 it is 2, and not 1, which acts next; at neither halt
-- is it 0, the bottom.
pub halts_to_task_below :
    translation (print_all (line_of 0 Fork 1 1 ∷ line_of 1 Fork 2 2 ∷ line_of 2 Fork 3 3 ∷ line_of 1 Read 5 4 ∷ []))
    ≡ says (event 2 0 1 ∷ event 2 1 2 ∷ event 2 2 3 ∷ event 4 3 2 ∷ event 4 2 1 ∷ event 0 1 5 ∷ [])
unfolding computed
halts_to_task_below = refl

-- `T0|fork(T1)|1`, `T7|fork(T2)|2`, `T1|fork(T1)|3`, `T0|r(V5)|4`: the line rules are broken at event 1, a fork by 7, which does not run, and the stack goes
-- on. The halt of 2 names 1, on which 2 stands, and of two tasks 1 that of the upper one names the lower.
pub halts_past_a_broken_rule :
    translation (print_all (line_of 0 Fork 1 1 ∷ line_of 7 Fork 2 2 ∷ line_of 1 Fork 1 3 ∷ line_of 0 Read 5 4 ∷ []))
    ≡ says (event 2 0 1 ∷ event 2 7 2 ∷ event 4 2 1 ∷ event 2 1 1 ∷ event 4 1 1 ∷ event 4 1 0 ∷ event 0 0 5 ∷ [])
unfolding computed
halts_past_a_broken_rule = refl

-- `T0|fork(T1)|1`, `T1|fork(T0)|2`, `T1|r(V5)|3`: the fork of a used number breaks a rule, and 0 stands on the stack twice. The upper 0 has a task below it, and its
-- halt names that.
pub second_task_0 : translation (print_all (line_of 0 Fork 1 1 ∷ line_of 1 Fork 0 2 ∷ line_of 1 Read 5 3 ∷ []))
    ≡ says (event 2 0 1 ∷ event 2 1 0 ∷ event 4 0 1 ∷ event 0 1 5 ∷ [])
unfolding computed
second_task_0 = refl

-- `T0|fork(T1)|1`, `T1|fork(T0)|2`, `T0|w(V5)|3`, `T7|join(T1)|4`: 0 stands on top of the stack again, and 7 nowhere. Nothing is added at the end.
pub no_halts : translation (print_all (line_of 0 Fork 1 1 ∷ line_of 1 Fork 0 2 ∷ line_of 0 Write 5 3 ∷ line_of 7 Join 1 4 ∷ []))
    ≡ says (event 2 0 1 ∷ event 2 1 0 ∷ event 1 0 5 ∷ event 3 7 1 ∷ [])
unfolding computed
no_halts = refl

-- `T0|fork(T1)|1`, `T0|join(T1)|2`, `T0|r(V5)|3`: 1 halts before it is joined, and a join pushes nothing.
pub join_pushes_nothing :
    translation
    (84 ∷ 48 ∷ 124 ∷ 102 ∷ 111 ∷ 114 ∷ 107 ∷ 40 ∷ 84 ∷ 49 ∷ 41 ∷ 124 ∷ 49 ∷ 10
    ∷ 84 ∷ 48 ∷ 124 ∷ 106 ∷ 111 ∷ 105 ∷ 110 ∷ 40 ∷ 84 ∷ 49 ∷ 41 ∷ 124 ∷ 50 ∷ 10
    ∷ 84 ∷ 48 ∷ 124 ∷ 114 ∷ 40 ∷ 86 ∷ 53 ∷ 41 ∷ 124 ∷ 51 ∷ 10
    ∷ [])
    ≡ says (event 2 0 1 ∷ event 4 1 0 ∷ event 3 0 1 ∷ event 0 0 5 ∷ [])
unfolding computed
join_pushes_nothing = refl

-- ---- row 14

-- `T0|r(5)|1`: no letter before the operand.
pub no_letter : translation (84 ∷ 48 ∷ 124 ∷ 114 ∷ 40 ∷ 53 ∷ 41 ∷ 124 ∷ 49 ∷ 10 ∷ []) ≡ refused 14 0
unfolding computed
no_letter = refl

-- `T00|r(V5)|1`: a leading zero, on line 3 after the example.
pub leading_zero : translation (example ++ (84 ∷ 48 ∷ 48 ∷ 124 ∷ 114 ∷ 40 ∷ 86 ∷ 53 ∷ 41 ∷ 124 ∷ 49 ∷ 10 ∷ [])) ≡ refused 14 3
unfolding computed
leading_zero = refl

-- `T0|r(V5)|65536`: a number above 65,535.
pub too_large : translation (84 ∷ 48 ∷ 124 ∷ 114 ∷ 40 ∷ 86 ∷ 53 ∷ 41 ∷ 124 ∷ 54 ∷ 53 ∷ 53 ∷ 51 ∷ 54 ∷ 10 ∷ []) ≡ refused 14 0
unfolding computed
too_large = refl

-- `T0|r(V5)|1`: the last line has no line feed.
pub no_line_feed : translation (84 ∷ 48 ∷ 124 ∷ 114 ∷ 40 ∷ 86 ∷ 53 ∷ 41 ∷ 124 ∷ 49 ∷ []) ≡ refused 14 0
unfolding computed
no_line_feed = refl

-- An empty line, on line 3 after the example.
pub empty_line : translation (example ++ (10 ∷ [])) ≡ refused 14 3
unfolding computed
empty_line = refl

-- The greatest number is taken.
pub greatest_number : translation (print_all (line_of 65535 Read 65535 65535 ∷ [])) ≡ says (event 0 65535 65535 ∷ [])
unfolding computed
greatest_number = refl

-- No text, no event.
pub empty_text : translation [] ≡ says []
unfolding computed
empty_text = refl

-- ---- row 15

abbrev reads : ℕ → List Line
reads zero = []
reads (suc n) = line_of 0 Read 1 1 ∷ reads n

-- "2,049 reads by T0"
pub too_many_reads : translation (print_all (reads 2049)) ≡ refused 15 2048
unfolding computed
too_many_reads = refl

-- A line that is not of the form makes no events: 14 and not 15, though 2,048 events came before it.
pub malformed_after_all : translation (print_all (reads 2048) ++ (84 ∷ [])) ≡ refused 14 2048
unfolding computed
malformed_after_all = refl
