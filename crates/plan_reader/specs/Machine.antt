-- The second pass as a machine: what each byte of a plan's text has it write, and which operators are then open. `proofs/Writing.antt` says that of a plan's text
-- it writes the plan's events. Assumes nothing.
use Rattle.std.specs.Prelude.{ℕ, zero, suc, ◌+◌, ◌-◌, ◌≤◌, ◌<◌, ◌≡◌, cond, List, [], ◌∷◌, ◌++◌, eqb, length, drop, get_or}
use Rattle.std.specs.Prelude.{Option, Some, None, option_map}
use Rattle.trace.specs.Trace.{Event, FORK, JOIN, HALT, TASKS}
use Rattle.trace.specs.declared.Event as code
use Rattle.trace.specs.Held.{held_event}
use Rattle.trace.specs.Slices.{Slices, store_all, Room}
use Rattle.numbers.specs.Options.{maybe}
use Rattle.numbers.specs.Reading.{number}
use Rattle.plan.specs.Plans.{Plan, LEVELS, IsPlan}
use Rattle.plan.specs.Events.{kind_of, event, forks, events_of}
use Rattle.plan.specs.Reading.{letter_of, LAST_LOCATION}
use Rattle.plan.specs.declared.Access.{Access}
use Rattle.plan.specs.declared.Operator.{Operator}
use Rattle.plan.specs.declared.Operator.TheVariants.{Series, Parallel}
use Rattle.plan.specs.declared.Letter.{Letter}
use Rattle.plan.specs.declared.Letter.TheVariants.{Leaf, Joint}
use Rattle.plan_reader.specs.declared.emission.Frame.{Frame}
use Rattle.plan_reader.specs.declared.emission.Writer.{Writer}
use Rattle.plan_reader.specs.declared.emission.Move.{Move}

-- The events of a move: one or none.
abbrev pub events_in : Option code.Event → List Event
events_in None = []
events_in (Some e) = held_event e ∷ []

abbrev pub code_event : ℕ → ℕ → ℕ → code.Event
code_event kind task operand = record { kind = kind; task = task; operand = operand }

-- The running task, the next one to be forked, and the open operators, the innermost first.
pub record State : Type 0 where
  pub actor : ℕ
  pub next : ℕ
  pub frames : List Frame

-- Between the operands the forked task halts, and its halt names the task that resumes. After them it is joined. S forks none, and adds no event.
abbrev pub halt : Frame → Option code.Event
halt f = option_map (λ c. code_event HALT c f.actor) f.child

abbrev pub join : Frame → Option code.Event
join f = option_map (λ c. code_event JOIN f.actor c) f.child

abbrev pub halting : Frame → List Event
halting f = events_in (halt f)

abbrev pub joining : Frame → List Event
joining f = events_in (join f)

-- What is written, the bytes that are left, and the state after it.
pub data Step : Type 0 where
  stuck : Step
  goes : List Event → List ℕ → State → Step

abbrev pub frame : ℕ → Option ℕ → Frame
frame actor child = record { actor = actor; child = child }

abbrev pub state : ℕ → ℕ → List Frame → State
state actor next frames = record { actor = actor; next = next; frames = frames }

-- At the letter of an operator, up to the byte after its bracket.
abbrev pub entered : Operator → List ℕ → State → Step
entered Series s st = goes [] s (state st.actor st.next (frame st.actor None ∷ st.frames))
entered Parallel s st =
    goes (event FORK st.actor st.next ∷ []) s (state st.next (st.next + 1) (frame st.actor (Some st.next) ∷ st.frames))

abbrev pub enter : Operator → List ℕ → State → Step
enter o [] st = stuck
enter o (c ∷ s) st = entered o s st

-- At a comma, or the bracket that closes an operator.
abbrev pub leave : List Frame → ℕ → List ℕ → State → Step
leave [] b s st = stuck
leave (f ∷ fs) b s st =
    cond (eqb b 44) (goes (halting f) s (state f.actor st.next (f ∷ fs))) (goes (joining f) s (state st.actor st.next fs))

abbrev pub step_by : Option Letter → ℕ → List ℕ → State → Step
step_by (Some (Leaf k)) b s st = maybe (number LAST_LOCATION s) stuck (λ n. goes (event (kind_of k) st.actor n.0 ∷ []) n.1 st)
step_by (Some (Joint o)) b s st = enter o s st
step_by None b s st = leave st.frames b s st

abbrev pub step_of : List ℕ → State → Step
step_of [] st = stuck
step_of (b ∷ s) st = step_by (letter_of b) b s st

-- From this state these bytes have these events written, within the limits.
pub data Runs : List ℕ → State → List Event → Type 0 where
  ended : {st : State} → Runs [] st []
  steps : {bytes rest : List ℕ} {st st' : State} {es fs : List Event} → step_of bytes st ≡ goes es rest st' → st'.next ≤ TASKS → length st'.frames ≤ LEVELS
      → Runs rest st' fs → Runs bytes st (es ++ fs)

-- ---- in a stack

-- The open operators stand in a stack, the outermost first.
abbrev pub frames_in : List Frame → ℕ → List Frame
frames_in stack zero = []
frames_in stack (suc d) = get_or stack d (frame 0 None) ∷ frames_in stack d

abbrev pub state_of : Writer → List Frame → State
state_of w stack = state w.actor w.next (frames_in stack w.depth)

-- Between the operands, and after them.
abbrev pub turned : Writer → Frame → Move
turned from f = record { event = halt f; after = record from { actor = f.actor } }

abbrev pub closed : Writer → Frame → Move
closed from f = record { event = join f; after = record from { depth = from.depth - 1 } }

-- Before them: what is pushed, and what is then written.
abbrev pub opening_frame : Operator → Writer → Frame
opening_frame Series from = frame from.actor None
opening_frame Parallel from = frame from.actor (Some from.next)

abbrev pub adds : Operator → ℕ
adds Series = 0
adds Parallel = 1

abbrev pub opened : Operator → Writer → Move
opened Series from = record { event = None; after = record from { depth = from.depth + 1 } }
opened Parallel from =
    record {
      event = Some (code_event FORK from.actor from.next);
      after = record from { depth = from.depth + 1; next = from.next + 1; actor = from.next };
    }

-- A byte is left, and the stack has room.
pub record Stands (from : Writer) (text : List ℕ) (stack : List Frame) : Type 0 where
  pub byte : from.at < length text
  pub size : length stack ≡ LEVELS
  pub low : from.depth ≤ LEVELS

-- What a step asks for,
pub record Goes (x : Step) : Type 0 where
  pub events : List Event
  pub rest : List ℕ
  pub after : State
  pub is : x ≡ goes events rest after
  pub few : after.next ≤ TASKS
  pub low : length after.frames ≤ LEVELS

-- and what it leaves.
pub record Went (text : List ℕ) (es : List Event) (rest : List ℕ) (st : State) (from : Writer) (m : Move) (stack : List Frame) : Type 0 where
  pub bytes : drop m.after.at text ≡ rest
  pub further : from.at < m.after.at
  pub within : m.after.at ≤ length text
  pub state_is : state_of m.after stack ≡ st
  pub events_are : events_in m.event ≡ es

abbrev pub After : Step → List ℕ → Writer → Move → List Frame → Type 0
After stuck text from m stack = Unit {0}
After (goes es rest st) text from m stack = Went text es rest st from m stack

-- After a leaf, which leaves the open operators. The writer is behind its letter.
abbrev pub AfterLeaf : Access → List ℕ → Writer → Move → Type 0
AfterLeaf k text from m = (stack : List Frame) → After (step_by (Some (Leaf k)) 0 (drop from.at text) (state_of from stack)) text from m stack

-- ---- the whole pass

-- The text is a plan's whose tasks and events have room.
pub record Ready (text : List ℕ) (b : Slices) : Type 0 where
  pub plan : Plan
  pub is_plan : IsPlan LEVELS text plan
  pub tasks : 1 + forks plan ≤ TASKS
  pub room : Room b (length (events_of plan))

-- And its events are stored.
abbrev pub Emitted : List ℕ → Slices → Slices → Type 0
Emitted text b b₁ = (p : Plan) → IsPlan LEVELS text p → b₁ ≡ store_all b 0 (events_of p)
