-- What a check says, beside the rows of document 01. Assumes nothing.
use Rattle.std.specs.Prelude.{ℕ, Result, Ok, Err}
use Rattle.trace.specs.Line.{Checked, passes, fails}
use Rattle.trace.specs.Rows.{row_number}
use Rattle.trace.specs.declared.Row.{Row}

-- The rows that are asked pass, for a trace of n events, or one is met.
abbrev pub checked : ℕ → Result (Unit {0}) Row → Checked ℕ
checked n (Ok done) = passes n
checked n (Err row) = fails (row_number row)
