-- What each answer of the code says: the token and the bytes after it for the reader's, and what the slices and the stack hold for the inner functions. The promises go through these. Assumes nothing.
use Rattle.std.specs.Prelude.{ℕ, zero, suc, ◌+◌, ◌-◌, ◌≤◌, ◌≡◌, cond, List, [], ◌∷◌, ltb, length, get_or, drop, Some, None, Result, Ok, Err}
use Rattle.std.specs.Prelude as code
use Rattle.std.proofs.Math.Option.{Option, none, some}
use Rattle.trace.specs.Trace.{Event}
use Rattle.trace.specs.Outcome.{Reply, says, refused}
use Rattle.trace.specs.Slices.{Slices, store_all}
use Rattle.trace.specs.declared.Refusal.{Refusal}
use Rattle.numbers.specs.Reading.{Token}
use Rattle.form.specs.Events.{events_of, stack_after}
use Rattle.form.specs.Decided.{MAX_TEXT_EVENTS}
use Rattle.form.specs.Translation.{refusal}
use Rattle.form.specs.declared.Line.{Line}
use Rattle.text.specs.declared.cursor.Cursor.{Cursor}
use Rattle.text.specs.declared.events.Stack.{Stack}

-- ---- the translation

-- An answer where only an accepted text says what the slices hold.
abbrev pub attempt_of : Result ℕ Refusal → Slices → Reply (ℕ × Slices)
attempt_of (Ok count) b = says (count, b)
attempt_of (Err r) b = refusal r

-- The events, stored from position `count` on.
abbrev pub attempted : Reply (List Event) → ℕ → Slices → Reply (ℕ × Slices)
attempted (says es) count b = says (count + length es, store_all b count es)
attempted (refused number position) count b = refused number position

-- ---- the tokens

-- What is left of the text.
abbrev pub left_of : Cursor → List ℕ
left_of cursor = drop cursor.at cursor.text.now

abbrev pub after_word : code.Option Cursor → Option (List ℕ)
after_word (Some past) = some (left_of past)
after_word None = none

abbrev pub after_token : {A : Type 0} → code.Option (A × Cursor) → Token A
after_token (Some (token, past)) = some (token, left_of past)
after_token None = none

-- ---- the stack of tasks on cells

-- The tasks of the first `depth` cells, the last one on top.
abbrev pub tasks_of : List ℕ → ℕ → List ℕ
tasks_of cells zero = []
tasks_of cells (suc depth) = get_or cells depth 0 ∷ tasks_of cells depth

-- The stack has room for task 0 and a task for each event.
abbrev pub STACK_CELLS : ℕ
STACK_CELLS = 2049

abbrev pub tasks_on : Stack → List ℕ
tasks_on stack = tasks_of stack.tasks stack.depth

-- The stack as the lines so far leave it, after `count` events.
pub record StackAfter (count : ℕ) (stack : Stack) : Type 0 where
  pub counted : count ≤ MAX_TEXT_EVENTS
  pub deep : stack.depth ≤ count + 1

-- The tasks from depth `base` to `depth` can halt, from event `from` on.
pub record HaltsFit (base depth from : ℕ) : Type 0 where
  pub over : base ≤ depth
  pub within : depth ≤ STACK_CELLS
  pub fit : from + (depth - base) ≤ MAX_TEXT_EVENTS

-- What a line leaves, where `count` events came before it: the number of events, the slices and the stack; nothing where its events are too many.
unfoldable pub added : Line → List ℕ → ℕ → Slices → Option (ℕ × Slices × List ℕ)
added l stack count b =
    cond (ltb MAX_TEXT_EVENTS (count + length (events_of stack l)))
    none
    (some (count + length (events_of stack l), store_all b count (events_of stack l), stack_after stack l))

abbrev pub added_of : code.Option ℕ → Stack → Slices → Option (ℕ × Slices × List ℕ)
added_of (Some count) stack b = some (count, b, tasks_on stack)
added_of None stack b = none
