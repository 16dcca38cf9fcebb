-- Which rule an event's kind chooses. Assumes nothing.
use Rattle.std.specs.Prelude.{ℕ, cond, eqb}
use Rattle.trace.specs.Trace.{FORK, JOIN, HALT, is_access}

-- One for each kind of event, but for reads, writes and sums, of which the rules ask the same; and one for what is no kind.
pub data Rule : Type 0 where
  Access : Rule
  Fork : Rule
  Join : Rule
  Halt : Rule
  Unknown : Rule

-- "Kinds are 0 read, 1 write, 2 fork, 3 join, 4 halt", and 5 sum.
unfoldable pub rule_of : ℕ → Rule
rule_of kind = cond (is_access kind) Access (cond (eqb kind FORK) Fork (cond (eqb kind JOIN) Join (cond (eqb kind HALT) Halt Unknown)))
