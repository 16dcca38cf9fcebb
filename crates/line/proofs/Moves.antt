-- THE BRIDGE from cells to stacks: each move leaves cells that hold the line it should, and stores to the line's own tables alone. Assumes nothing.
use Prim.Native.Nat.{ℕ, ◌+◌, ◌-◌, ◌<◌, ◌≤◌}
use mathlib.Core.Path.{◌≡◌, refl, sym, ap, ◌∙◌}
use mathlib.Core.Bool.{false≢true}
use mathlib.Core.List.{List, [], ◌∷◌, tail}
use mathlib.Core.Logic.{inl, inr, ◌≢◌}
use native.Mathlib.Omega.{arith}
use lib.ListN.{length, get_or, set, length-set}
use lib.Seq.{get_or-set_same, get_or-set_other}
use borrow.Author.Tests.{lt-ltb, le-ltb}
use Rattle.trace.specs.Trace.{Trace, TASKS, WORKSPACE_CELLS}
use Rattle.trace.specs.Line.{Line as TraceLine, resumed}
use Rattle.trace.proofs.Tests.{either, same_or_not, Tests, tests_map}
use Rattle.trace.proofs.Stacks.{In}
use Rattle.trace.proofs.Run.{stacks_length}
use Rattle.cells.specs.Cells.{zeroed, SameBeyond}
use Rattle.cells.proofs.Zeroed.{zeroed_length, zeroed_below, zeroed_beyond}
use Rattle.line.specs.declared.Line.{Line}
use Rattle.line.specs.Rules.{Fork, Join, Halt}
use Rattle.line.specs.Cells.{USED, USED_CELLS, NOW_USED, LEFT, ACTIVE, depths, running_in, nearest_in, resumed_in, is_used_in, started_in, forked_in, halted_in}
use Rattle.line.specs.Steps.{after_in}
use Rattle.line.specs.Held.{StackAt, LineCells, LineAt, OfLine, Free, SameFree}

-- ---- stacks in cells

-- A stack stays where its cells do.
pub stack_frame :
    (c d : List ℕ) (base : ℕ) (l : List ℕ) → ((i : ℕ) → i < length l → get_or d (base + i) 0 ≡ get_or c (base + i) 0) → StackAt c base l
    → StackAt d base l
stack_frame c d base [] same s = tt
stack_frame c d base (y ∷ l) same s = (same (length l) (omega arith) ∙ s.0, stack_frame c d base l (λ i h. same i (omega arith)) s.1)

-- The running task stands on top of the active ones,
pub running_is : {c : List ℕ} {line : Line} {left paused used : List ℕ} {x : ℕ} → LineCells c line left (x ∷ paused) used → running_in c line ≡ x
running_is {c = c} {line = line} {paused = paused} l =
    let depth = l.active_depth in
    let i : ACTIVE + line.active - 1 ≡ ACTIVE + length paused = omega arith in
    ap (λ (j : ℕ). get_or c j 0) i ∙ l.active_cells.0

-- and is the first of them.
pub running_first :
    {c : List ℕ} {line : Line} {left used : List ℕ} {x : ℕ} (active : List ℕ) → LineCells c line left active used → 0 < line.active
    → x ≡ running_in c line → (paused : List ℕ) × (active ≡ x ∷ paused)
running_first [] l some e = let none = l.active_depth in absurd (omega arith)
running_first (y ∷ paused) l some e = (paused, ap (λ (z : ℕ). z ∷ paused) (sym (e ∙ running_is l)))

-- Its left neighbour stands on top of `left`.
pub nearest_is : {c : List ℕ} {line : Line} {left active used : List ℕ} {v : ℕ} → LineCells c line (v ∷ left) active used → nearest_in c line ≡ v
nearest_is {c = c} {line = line} {left = left} l =
    let depth = l.left_depth in
    let i : LEFT + line.left - 1 ≡ LEFT + length left = omega arith in
    ap (λ (j : ℕ). get_or c j 0) i ∙ l.left_cells.0

-- The task that resumes is the first of those paused below the running one, if there is one, else 0.
pub resumed_is :
    {c : List ℕ} {line : Line} {left used : List ℕ} (active : List ℕ) → LineCells c line left active used → resumed_in c line ≡ resumed (tail active)
unfolding resumed_in resumed
resumed_is {line = line} [] l = rw (lt-ltb line.active 2 (omega (arith, l.active_depth))) refl
resumed_is {line = line} (x ∷ []) l = rw (lt-ltb line.active 2 (omega (arith, l.active_depth))) refl
resumed_is {c = c} {line = line} (x ∷ (y ∷ paused)) l =
    let depth = l.active_depth in
    let i : ACTIVE + line.active - 2 ≡ ACTIVE + length paused = omega arith in
    rw (le-ltb line.active 2 (omega arith)) (ap (λ (j : ℕ). get_or c j 0) i ∙ l.active_cells.1.0)

-- ---- the frame: cells outside the line's own tables do not matter to it

module _ {c d : List ℕ} (room : WORKSPACE_CELLS ≤ length d) (same : (i : ℕ) → OfLine i → get_or d i 0 ≡ get_or c i 0) where
  cells_frame :
      {line : Line} {left active used : List ℕ} → LineCells c line left active used → length active + length left ≤ TASKS → LineCells d line left active used
  unfolding is_used_in
  cells_frame {left = left} {active = active} l fit =
      record {
        room = room;
        left_depth = l.left_depth;
        active_depth = l.active_depth;
        left_cells = stack_frame c d LEFT left (λ i h. same (LEFT + i) (inr (omega arith, omega arith))) l.left_cells;
        active_cells = stack_frame c d ACTIVE active (λ i h. same (ACTIVE + i) (inr (omega arith, omega arith))) l.active_cells;
        used_cells = λ t h. rw (same (USED + t) (inl (omega arith))) (l.used_cells t h);
      }

  -- THE LINE STAYS where its own tables do.
  pub line_frame : {rule : TraceLine → ℕ} {tr : Trace} {n : ℕ} {line : Line} → LineAt rule tr n c line → LineAt rule tr n d line
  line_frame {rule} {tr} at =
      record {
        left = at.left;
        active = at.active;
        used = at.used;
        last = at.last;
        run = at.run;
        cells = cells_frame at.cells (stacks_length rule tr at.run);
      }

-- ---- cells that no move stores to

pub free_eq : (c d : List ℕ) → d ≡ c → SameFree c d
free_eq c d e = record { long = ap length e; same = λ i h. rw e }

-- Those past the tables are among them.
pub free_beyond : {c d : List ℕ} → SameFree c d → SameBeyond c d
free_beyond f = record { long = f.long; same = λ i h. f.same i (inr (omega arith)) }

-- A store to the line's tables.
free_set : {c d : List ℕ} (i v : ℕ) → OfLine i → SameFree c d → SameFree c (set d i v)
free_set {d = d} i v of f =
    record {
      long = length-set d i v ∙ f.long;
      same = λ j h. get_or-set_other d i j v 0 (λ e. apart j h e) ∙ f.same j h;
    }
  where
    apart : (j : ℕ) → Free j → j ≢ i
    apart j h e =
        either of (λ low. either h (λ w. omega arith) (λ w. omega arith)) (λ high. either h (λ w. omega arith) (λ w. omega arith))

-- ---- the start

module _ (c : List ℕ) (room : WORKSPACE_CELLS ≤ length c) where
  abbrev zeros : List ℕ
  zeros = zeroed USED_CELLS c

  abbrev used_zero : List ℕ
  used_zero = set zeros (USED + 0) 1

  zeros_length : length zeros ≡ length c
  zeros_length = zeroed_length USED_CELLS c (omega arith)

  pub start_length : length (started_in c) ≡ length c
  unfolding started_in
  start_length = length-set used_zero (ACTIVE + 0) 0 ∙ (length-set zeros (USED + 0) 1 ∙ zeros_length)

  -- Of the cells past USED only the first of ACTIVE changes.
  pub start_same : (i : ℕ) → USED_CELLS ≤ i → i ≢ ACTIVE → get_or (started_in c) i 0 ≡ get_or c i 0
  unfolding started_in
  start_same i past other =
      get_or-set_other used_zero (ACTIVE + 0) i 0 0 (λ e. other (omega arith))
      ∙ (get_or-set_other zeros (USED + 0) i 1 0 (λ e. omega arith) ∙ zeroed_beyond USED_CELLS c i past)

  pub start_free : SameFree c (started_in c)
  start_free =
      record {
        long = start_length;
        same = λ i h.
            start_same i (either h (λ w. omega arith) (λ w. omega arith)) (λ e. either h (λ w. omega arith) (λ w. omega arith));
      }

  start_used : (t : ℕ) → t < TASKS → Tests (is_used_in (started_in c) t) (In t (0 ∷ []))
  unfolding started_in is_used_in
  start_used t h =
      rw (get_or-set_other used_zero (ACTIVE + 0) (USED + t) 0 0 (λ e. omega arith))
      (either (same_or_not t 0)
      (λ e. rw (e, get_or-set_same zeros (USED + 0) 1 0 (omega (arith, zeros_length))) (λ q. inl refl, λ i. refl))
      (λ e.
      rw (get_or-set_other zeros (USED + 0) (USED + t) 1 0 (λ q. omega arith), zeroed_below USED_CELLS c (USED + t) (omega arith))
      (λ q. absurd (false≢true q), λ i. either i (λ q. absurd (e q)) (λ j. absurd j))))

  pub start_cells : LineCells (started_in c) (depths 1 0) [] (0 ∷ []) (0 ∷ [])
  unfolding started_in
  start_cells =
      record {
        room = omega (arith, start_length);
        left_depth = refl;
        active_depth = refl;
        left_cells = tt;
        active_cells = (get_or-set_same used_zero (ACTIVE + 0) 0 0 (rw length-set (omega (arith, zeros_length))), tt);
        used_cells = start_used;
      }

-- ---- a fork

module _ {c : List ℕ} {line : Line} {left active used : List ℕ} (l : LineCells c line left active used) (child : ℕ)
    (small : child < TASKS) (fit : length active + length left < TASKS) where
  abbrev pushed : List ℕ
  pushed = set c (ACTIVE + line.active) child

  -- the cells outside the two that change
  fork_other : (i : ℕ) → i ≢ ACTIVE + line.active → i ≢ USED + child → get_or (set pushed (USED + child) NOW_USED) i 0 ≡ get_or c i 0
  fork_other i a b =
      get_or-set_other pushed (USED + child) i NOW_USED 0 b ∙ get_or-set_other c (ACTIVE + line.active) i child 0 a

  used_wide : USED + child < length pushed
  used_wide = rw length-set (omega (arith, l.room))

  fork_used : (t : ℕ) → t < TASKS → Tests (is_used_in (set pushed (USED + child) NOW_USED) t) (In t (child ∷ used))
  unfolding is_used_in
  fork_used t h =
      either (same_or_not t child)
      (λ e. rw (e, get_or-set_same pushed (USED + child) NOW_USED 0 used_wide) (λ q. inl refl, λ i. refl))
      (λ e.
      rw (fork_other (USED + t) (λ q. omega arith) (λ q. e (omega arith)))
      (tests_map (λ i. inr i) (λ i. either i (λ q. absurd (e q)) (λ j. j)) (l.used_cells t h)))

  -- THE FORK. The child is on top of the active tasks, and used.
  pub fork_cells : LineCells (forked_in c line child) (after_in line Fork) left (child ∷ active) (child ∷ used)
  unfolding forked_in
  fork_cells =
      let d = l.active_depth in
      record {
        room = rw (length-set, length-set) l.room;
        left_depth = l.left_depth;
        active_depth = omega arith;
        left_cells = stack_frame c _ LEFT left (λ i h. fork_other (LEFT + i) (λ e. omega arith) (λ e. omega arith)) l.left_cells;
        active_cells = (
          ap (λ (i : ℕ). get_or (set pushed (USED + child) NOW_USED) (ACTIVE + i) 0) (sym d)
              ∙ (get_or-set_other pushed (USED + child) (ACTIVE + line.active) NOW_USED 0 (omega arith)
              ∙ get_or-set_same c (ACTIVE + line.active) child 0 (omega (arith, l.room))),
          stack_frame c _ ACTIVE active (λ i h. fork_other (ACTIVE + i) (λ e. omega arith) (λ e. omega arith)) l.active_cells,
        );
        used_cells = fork_used;
      }

  pub fork_free : SameFree c (forked_in c line child)
  unfolding forked_in
  fork_free =
      let d = l.active_depth in
      free_set (USED + child) NOW_USED (inl (omega arith))
      (free_set (ACTIVE + line.active) child (inr (omega arith, omega arith)) (free_eq c c refl))

-- ---- a halt

module _ {c : List ℕ} {line : Line} {left paused used : List ℕ} {x : ℕ} (l : LineCells c line left (x ∷ paused) used)
    (fit : length (x ∷ paused) + length left ≤ TASKS) where
  halt_other : (i : ℕ) → i ≢ LEFT + line.left → get_or (set c (LEFT + line.left) x) i 0 ≡ get_or c i 0
  halt_other i a = get_or-set_other c (LEFT + line.left) i x 0 a

  -- THE HALT. The running task is the nearest in `left`.
  pub halt_cells : LineCells (halted_in c line) (after_in line Halt) (x ∷ left) paused used
  unfolding halted_in is_used_in
  halt_cells =
      let d = l.left_depth in
      let a = l.active_depth in
      rw (running_is l)
      (record {
        room = rw length-set l.room;
        left_depth = omega arith;
        active_depth = omega arith;
        left_cells = (
          ap (λ (i : ℕ). get_or (set c (LEFT + line.left) x) (LEFT + i) 0) (sym d) ∙ get_or-set_same c (LEFT + line.left) x 0 (omega (arith, l.room)),
          stack_frame c _ LEFT left (λ i h. halt_other (LEFT + i) (λ e. omega arith)) l.left_cells,
        );
        active_cells = stack_frame c _ ACTIVE paused (λ i h. halt_other (ACTIVE + i) (λ e. omega arith)) l.active_cells.1;
        used_cells = λ t h. rw (halt_other (USED + t) (λ e. omega arith)) (l.used_cells t h);
      })

  pub halt_free : SameFree c (halted_in c line)
  unfolding halted_in
  halt_free =
      let d = l.left_depth in
      free_set (LEFT + line.left) (running_in c line) (inr (omega arith, omega arith)) (free_eq c c refl)

-- ---- a join

-- THE JOIN. The nearest in `left` is gone.
pub join_cells :
    {c : List ℕ} {line : Line} {left active used : List ℕ} {v : ℕ} → LineCells c line (v ∷ left) active used
    → LineCells c (after_in line Join) left active used
join_cells l =
    let depth = l.left_depth in
    record {
      room = l.room;
      left_depth = omega arith;
      active_depth = l.active_depth;
      left_cells = l.left_cells.1;
      active_cells = l.active_cells;
      used_cells = l.used_cells;
    }
