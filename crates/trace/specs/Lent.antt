-- The trace that is lent, as contracts of the code name it: `now` is what a lent slice holds. Assumes nothing.
use Rattle.std.specs.Prelude.{ℕ, List}
use Rattle.std.specs.Borrow.{Bor}
use Rattle.trace.specs.Trace.{Trace, trace_of}

-- "A trace is three lent slices of one length".
abbrev pub lent_trace : Bor (List ℕ) → Bor (List ℕ) → Bor (List ℕ) → Trace
lent_trace kinds tasks operands = trace_of kinds.now tasks.now operands.now
