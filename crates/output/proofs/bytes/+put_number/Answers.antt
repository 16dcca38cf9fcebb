-- `output::bytes::put_number` meets its contract: one digit, or the digits of the tenth and the last one. Assumes nothing.
use borrow.Author.Rules.{rules}
use Rattle.output.proofs.Rendering.{number_digit, number_more}
use Rattle.output.proofs.bytes.+put_number.Goals as goal

pub returns-then-n-lt10 : goal.returns-then-n-lt10
returns-then-n-lt10 t c = search number_digit

pub returns : goal.returns
returns t c = search (rules, number_more)
