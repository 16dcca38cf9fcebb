-- `Cursor::field` meets its contract: each `return` is a row of `field`. Assumes nothing.
use Rattle.text.proofs.TokenRows.{field_before, field_number, field_after, field_whole}
use Rattle.text.proofs.cursor.Cursor.field.Goals as goal

pub returns-in_default : goal.returns-in_default
returns-in_default c = field_before _ _ _ c.in_default.ensures

pub returns-in_default-number_at : goal.returns-in_default-number_at
returns-in_default-number_at c = field_number _ _ _ _ c.in-Some.ensures c.in_default-number_at.ensures.read

pub returns-in_default-word : goal.returns-in_default-word
returns-in_default-word c =
    field_after _ _ _ _ c.in-Some.ensures _ _ c.in-Some-number_at.ensures.read c.in_default-word.ensures

pub returns : goal.returns
returns c = field_whole _ _ _ _ c.in-Some.ensures _ _ c.in-Some-number_at.ensures.read _ c.in-Some-word.ensures
