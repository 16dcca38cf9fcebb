-- `Cursor::line` meets its contract: each `return` is a row of `line`. Assumes nothing.
use Rattle.text.proofs.TokenRows.{line_task, line_operation, line_operand, line_source, line_whole}
use Rattle.text.proofs.cursor.Cursor.line.Goals as goal

pub returns-in_default : goal.returns-in_default
returns-in_default c = line_task _ c.in_default.ensures

pub returns-in_default-operation : goal.returns-in_default-operation
returns-in_default-operation c = line_operation _ _ _ c.in-Some.ensures c.in_default-operation.ensures

pub returns-in_default-field : goal.returns-in_default-field
returns-in_default-field c = line_operand _ _ _ c.in-Some.ensures _ _ c.in-Some-operation.ensures c.in_default-field.ensures

pub returns-in_default-field-2 : goal.returns-in_default-field-2
returns-in_default-field-2 c =
    line_source _ _ _ c.in-Some.ensures _ _ c.in-Some-operation.ensures _ _ c.in-Some-field.ensures c.in_default-field-2.ensures

pub returns : goal.returns
returns c =
    line_whole _ _ _ c.in-Some.ensures _ _ c.in-Some-operation.ensures _ _ c.in-Some-field.ensures _ _ c.in-Some-field-2.ensures
