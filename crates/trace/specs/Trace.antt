-- A trace, and the limits of document 01 (section "A trace"). Assumes nothing.
use Rattle.std.specs.Prelude.{ℕ, Bool, ◌||◌, List, eqb, leb, get_or}

-- "Entry p of each makes event p": its kind, the task that acts, and its operand.
pub record Event : Type 0 where
  pub kind : ℕ
  pub task : ℕ
  pub operand : ℕ

-- The same at every position p.
pub record Trace : Type 0 where
  pub kind : ℕ → ℕ
  pub task : ℕ → ℕ
  pub operand : ℕ → ℕ

-- "A trace is three lent slices of one length: kinds (u8), tasks (u16) and operands (u16)." A position past the end is no event: what is read there is
-- never asked for.
unfoldable pub trace_of : List ℕ → List ℕ → List ℕ → Trace
trace_of kinds tasks operands =
    record { kind = λ p. get_or kinds p 0; task = λ p. get_or tasks p 0; operand = λ p. get_or operands p 0 }

-- "Kinds are 0 read, 1 write, 2 fork, 3 join, 4 halt." Document 02, K3: "Kind 5 becomes a sum".
abbrev pub READ : ℕ
READ = 0

abbrev pub WRITE : ℕ
WRITE = 1

abbrev pub FORK : ℕ
FORK = 2

abbrev pub JOIN : ℕ
JOIN = 3

abbrev pub HALT : ℕ
HALT = 4

abbrev pub SUM : ℕ
SUM = 5

-- A kind that the documents name: "Refusal 5 now begins at kind 6".
unfoldable pub is_kind : ℕ → Bool
is_kind k = leb k SUM

-- An access: a read, a write or a sum.
unfoldable pub is_access : ℕ → Bool
is_access k = eqb k READ || (eqb k WRITE || eqb k SUM)

-- "a location, 0 to 1,023"
abbrev pub LOCATIONS : ℕ
LOCATIONS = 1024

-- "a task, 0 to 1,023"
abbrev pub TASKS : ℕ
TASKS = 1024

-- "At most 32,768 events."
abbrev pub MAX_EVENTS : ℕ
MAX_EVENTS = 32768

-- "at least 12,288 cells more than the trace has events"
abbrev pub WORKSPACE_CELLS : ℕ
WORKSPACE_CELLS = 12288
