-- The kinds of access counted up from 0: the row and the column of each in the table of conflicts, and its place where code keeps a table for each.
-- Assumes nothing.
use Rattle.std.specs.Prelude.{ℕ, cond, eqb}
use Rattle.trace.specs.Trace.{SUM}

-- 0 for a read, 1 for a write, 2 for a sum.
unfoldable pub index_of : ℕ → ℕ
index_of k = cond (eqb k SUM) 2 k
