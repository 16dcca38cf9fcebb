-- `numbers::extend` meets its contract: each `return` is a row of `extended`. Assumes nothing.
use Rattle.std.proofs.Common.{arith}
use Rattle.numbers.proofs.Scans.{extended_zero, extended_other, extended_large, extended_more}
use Rattle.numbers.proofs.extend.Goals as goal

pub returns-then-value-eq0 : goal.returns-then-value-eq0
returns-then-value-eq0 c = search extended_zero

pub returns-in_err-last : goal.returns-in_err-last
returns-in_err-last c = rw c.from_residual.ensures (extended_other _ _ _ c.if-value-eq0.false c.in_err-last.ensures)

pub returns-then-next-from : goal.returns-then-next-from
returns-then-next-from c = extended_more _ _ _ c.if-value-eq0.false _ _ c.in_ok-last.ensures (omega arith) (omega arith)

pub returns-else-next-from : goal.returns-else-next-from
returns-else-next-from c = extended_large _ _ _ c.if-value-eq0.false _ c.in_ok-last.ensures (omega arith)
