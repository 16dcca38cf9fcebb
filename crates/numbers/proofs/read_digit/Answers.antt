-- `numbers::read_digit` meets its contract: each arm is a row of `digit`. Assumes nothing.
use Rattle.std.proofs.Common.{arith}
use borrow.Author.Tests.{lt-ltb, le-ltb}
use Rattle.numbers.specs.Reading.{digit}
use Rattle.numbers.proofs.read_digit.Goals as goal

pub returns-in-48-to-57 : goal.returns-in-48-to-57
unfolding digit
returns-in-48-to-57 c = rw (le-ltb c.args.byte 48 (omega arith), le-ltb 57 c.args.byte (omega arith), c.from.ensures)

pub returns-in_default : goal.returns-in_default
unfolding digit
returns-in_default c = rw (lt-ltb c.args.byte 48 (omega arith))

pub returns-in_default-2 : goal.returns-in_default-2
unfolding digit
returns-in_default-2 c = rw (le-ltb c.args.byte 48 (omega arith), lt-ltb 57 c.args.byte (omega arith))
