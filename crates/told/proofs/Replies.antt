-- What `telling::tell` says of an answer is what is to be told of its reply. Assumes nothing.
use Prim.Native.Nat.{ℕ}
use mathlib.Core.Path.{◌≡◌, ap, ◌∙◌}
use mathlib.Core.Bool.{Bool, true, false}
use mathlib.Core.List.{List}
use Rattle.std.specs.Prelude.{Result, Ok, Err}
use Rattle.trace.specs.declared.Refusal.{Refusal}
use Rattle.trace.specs.declared.Verdict.{Verdict}
use Rattle.trace.specs.Answers.{reply, judge_reply, judge_links, ordering_reply}
use Rattle.convert.specs.Conversion.{conversion_reply}
use Rattle.told.specs.Codes.{Told, first_values, judge_told, ordering_told, conversion_told, count_told, Tells, TellsVerdict, TellsOrder, TellsDone, TellsCount}

module _ (code : ℕ) (values : List ℕ) where
  abbrev said : Told
  said = record { code = code; values = values }

  pub told_verdict : (answer : Result Verdict Refusal) → Tells 3 TellsVerdict answer code values → said ≡ judge_told (judge_reply answer) (judge_links answer)
  unfolding judge_reply judge_links judge_told
  told_verdict (Ok verdict) told = told.2 ∙ told.1
  told_verdict (Err r) told = told.2 ∙ ap (first_values 3) told.1

  pub told_order : (answer : Result Bool Refusal) → Tells 2 TellsOrder answer code values → said ≡ ordering_told (ordering_reply answer)
  unfolding ordering_reply ordering_told
  told_order (Ok true) told = told.2 ∙ told.1
  told_order (Ok false) told = told.2 ∙ told.1
  told_order (Err r) told = told.2 ∙ ap (first_values 2) told.1

  pub told_done : (answer : Result (Unit {0}) Refusal) → Tells 2 TellsDone answer code values → said ≡ conversion_told (conversion_reply answer)
  unfolding conversion_reply conversion_told
  told_done (Ok converted) told = told.2 ∙ told.1
  told_done (Err r) told = told.2 ∙ ap (first_values 2) told.1

  pub told_count : (answer : Result ℕ Refusal) → Tells 2 TellsCount answer code values → said ≡ count_told (reply answer)
  unfolding reply count_told
  told_count (Ok count) told = told.2 ∙ told.1
  told_count (Err r) told = told.2 ∙ ap (first_values 2) told.1
