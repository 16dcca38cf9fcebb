-- `told_texts::translate` meets its contract: a short slice, or the translation's answer, is told as the text and the slices ask (`Translations`). Assumes
-- nothing.
use mathlib.Core.Path.{◌∙◌}
use Rattle.told_texts.proofs.Translations.{with_meaning, lengths_short, told_short, told_answer}
use Rattle.told_texts.proofs.translate.Goals as goal

pub returns-then-is_short : goal.returns-then-is_short
returns-then-is_short c =
    let p = with_meaning _ _ (told_short _ _ (lengths_short _ _ _ c.is_short.ensures ∙ c.if-is_short.true)) in
    record { outcome = p.0; form = p.1 }

pub translate-answer-requires : goal.translate-answer-requires
translate-answer-requires c = lengths_short _ _ _ c.is_short.ensures ∙ c.if-is_short.false

pub returns : goal.returns
returns c =
    let long = lengths_short _ _ _ c.is_short.ensures ∙ c.if-is_short.false in
    let p = with_meaning _ _ (told_answer _ _ long _ c.translate-answer.ensures c.tell.ensures) in
    record { outcome = p.0; form = p.1 }
