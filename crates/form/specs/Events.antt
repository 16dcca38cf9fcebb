-- The events that lines make (document 01, "The text form", from "Halts are implied" on; document 02, K6). Assumes nothing.
use Rattle.std.specs.Prelude.{ℕ, zero, suc, ◌+◌, cond, List, [], ◌∷◌, ◌++◌, eqb, drop}
use Rattle.std.proofs.Math.Option.{Option, none, some}
use Rattle.trace.specs.Trace.{Event, READ, WRITE, FORK, JOIN, HALT}
use Rattle.trace.specs.Line.{resumed}
use Rattle.numbers.specs.Options.{maybe, ◌then◌}
use Rattle.form.specs.declared.Line.{Line}
use Rattle.form.specs.declared.Operation.{Operation}
use Rattle.form.specs.declared.Operation.TheVariants.{Read, Write, Fork, Join}

-- "Kinds are 0 read, 1 write, 2 fork, 3 join, 4 halt."
abbrev pub kind_of : Operation → ℕ
kind_of Read = READ
kind_of Write = WRITE
kind_of Fork = FORK
kind_of Join = JOIN

-- The line's own event.
abbrev pub event_of : Line → Event
event_of l = record { kind = kind_of l.operation; task = l.task; operand = l.operand }

-- ---- implied halts. A stack is the list of its tasks, the top first: "The program keeps a stack of tasks, task 0 at the bottom"

-- The halt of a task, over the tasks below it on the stack. Document 02, K6: "A halt's operand now names the task that resumes; for task 0's own halt it is 0",
-- and "The text program and the plan reader fill it in." It is the next lower task of the stack, also past a broken rule, where the stack is not the line's.
abbrev pub halt : ℕ → List ℕ → Event
halt task below = record { kind = HALT; task = task; operand = resumed below }

-- Halts of the first k tasks of a stack, "top first".
abbrev pub halts : ℕ → List ℕ → List Event
halts zero stack = []
halts (suc k) [] = []
halts (suc k) (task ∷ below) = halt task below ∷ halts k below

-- How many tasks stand above the highest place of a task, if it stands somewhere.
abbrev pub above : ℕ → List ℕ → Option ℕ
above task [] = none
above task (x ∷ below) = cond (eqb x task) (some 0) (above task below then λ n. some (n + 1))

-- How many tasks a line of a task halts: "If a line's task is the top, nothing is added. If it stands lower, halts are added for the tasks above its
-- highest place, top first, and those tasks leave the stack. If it stands nowhere, nothing is added."
abbrev pub implied : ℕ → List ℕ → ℕ
implied task stack = maybe (above task stack) 0 (λ n. n)

-- The events of a line: the implied halts, then its own.
unfoldable pub events_of : List ℕ → Line → List Event
events_of stack l = halts (implied l.task stack) stack ++ (event_of l ∷ [])

-- "a fork line pushes its operand"
abbrev pub pushed : Operation → ℕ → List ℕ → List ℕ
pushed Read operand stack = stack
pushed Write operand stack = stack
pushed Fork operand stack = operand ∷ stack
pushed Join operand stack = stack

-- The stack after a line: "those tasks leave the stack".
unfoldable pub stack_after : List ℕ → Line → List ℕ
stack_after stack l = pushed l.operation l.operand (drop (implied l.task stack) stack)

-- ---- all lines

-- The events of lines, one after the other, from this stack: "No halt is added at the end."
abbrev pub events_of_all : List ℕ → List Line → List Event
events_of_all stack [] = []
events_of_all stack (l ∷ lines) = events_of stack l ++ events_of_all (stack_after stack l) lines

-- The events that the lines of a text make: at its start the stack holds task 0 alone.
abbrev pub events_of_text : List Line → List Event
events_of_text lines = events_of_all (0 ∷ []) lines
