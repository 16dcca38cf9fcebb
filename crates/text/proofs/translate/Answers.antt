-- `text::translate` meets its contract: what passes on spare slices passes again, and the outcome has its meaning (`Translating`). Assumes nothing.
use Rattle.std.proofs.lemmas.Result.{err_from_is_err_and}
use Rattle.text.proofs.Translating.{meaning, translate_refused, translate_passed}
use Rattle.text.proofs.translate.Goals as goal

pub returns-in_err-translate_into-clause-outcome : goal.returns-in_err-translate_into-clause-outcome
returns-in_err-translate_into-clause-outcome c =
    let p = err_from_is_err_and c.from_residual.result c.from_residual.ensures.1 in
    rw (p.1, p.2) (translate_refused _ _ _ _ c.in_err-translate_into.ensures)

pub returns-in_err-translate_into-clause-form : goal.returns-in_err-translate_into-clause-form
returns-in_err-translate_into-clause-form c = meaning (returns-in_err-translate_into-clause-outcome c)

pub returns-clause-outcome : goal.returns-clause-outcome
returns-clause-outcome c = translate_passed _ _ _ _ c.in_ok-translate_into.ensures _ _ _ c.translate_into-2.ensures

pub returns-clause-form : goal.returns-clause-form
returns-clause-form c = meaning (returns-clause-outcome c)
