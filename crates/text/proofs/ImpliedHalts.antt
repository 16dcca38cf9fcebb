-- The loops of `unwind` and `halt_above`: the search for a task's highest place from the top of the stack, and the halts of the tasks above it, top
-- first; and the operand of a halt, for `halt_operand`. Assumes nothing.
use Prim.Native.Nat.{ℕ, zero, suc, ◌+◌, ◌-◌, ◌≤◌, ◌<◌}
use native.Mathlib.Numerals.{add-one}
use native.Mathlib.Omega.{arith}
use mathlib.Core.Path.{◌≡◌, refl, ap, ◌∙◌}
use mathlib.Core.List.{List}
use mathlib.Core.Option.{Option, none, some}
use lib.ListN.{get_or}
use borrow.Author.Tests.{eq-eqb, ne_eqb}
use Rattle.trace.specs.Line.{resumed}
use Rattle.trace.specs.Slices.{Slices, store, store_all}
use Rattle.numbers.specs.Options.{◌then◌}
use Rattle.form.specs.Events.{halt, halts, above, implied}
use Rattle.text.specs.Answers.{tasks_of}

-- A place counted from a higher one.
abbrev raised : ℕ → Option ℕ → Option ℕ
raised by o = o then λ n. some (n + by)

-- ---- `unwind`

-- The tasks above `place` are not `task`.
pub record Searching (cells : List ℕ) (task depth place : ℕ) : Type 0 where
  pub within : place ≤ depth
  pub left : above task (tasks_of cells depth) ≡ raised (depth - place) (above task (tasks_of cells place))

pub searching_begins : (cells : List ℕ) (task depth : ℕ) → Searching cells task depth depth
searching_begins cells task depth =
    record { within = omega arith; left = same (above task (tasks_of cells depth)) }
  where
    same : (o : Option ℕ) → o ≡ raised (depth - depth) o
    same none = refl
    same (some n) = ap (λ (m : ℕ). some m) (omega arith)

pub searching_more : (cells : List ℕ) (task depth place : ℕ) → Searching cells task depth (place + 1)
    → (get_or cells place 0 ≡ task → ⊥) → Searching cells task depth place
searching_more cells task depth place s n =
    let w = s.within in
    let f = rw (add-one, ne_eqb (get_or cells place 0) task n) at s.left in
    record { within = omega arith; left = f ∙ joined (above task (tasks_of cells place)) (omega arith) }
  where
    joined : (o : Option ℕ) → suc place ≤ depth → raised (depth - suc place) (o then λ n. some (n + 1)) ≡ raised (depth - place) o
    joined none w = refl
    joined (some n) w = ap (λ (m : ℕ). some m) (omega arith)

pub searching_found : (cells : List ℕ) (task depth place : ℕ) → Searching cells task depth (place + 1)
    → get_or cells place 0 ≡ task → place + 1 ≡ depth - implied task (tasks_of cells depth)
searching_found cells task depth place s h =
    let w = s.within in
    let f = rw (add-one, eq-eqb (get_or cells place 0) task h) at s.left in
    rw f (omega arith)

pub searching_ends : (cells : List ℕ) (task depth : ℕ) → Searching cells task depth 0
    → depth ≡ depth - implied task (tasks_of cells depth)
searching_ends cells task depth s = rw s.left (omega arith)

-- ---- `halt_operand`

pub resumed_none : (cells : List ℕ) (place : ℕ) → place ≡ 0 → 0 ≡ resumed (tasks_of cells place)
unfolding resumed
resumed_none cells place e = rw e

pub resumed_below : (cells : List ℕ) (place : ℕ) → (place ≡ 0 → ⊥) → get_or cells (place - 1) 0 ≡ resumed (tasks_of cells place)
unfolding resumed
resumed_below cells zero some_below = absurd (some_below refl)
resumed_below cells (suc place) some_below = let e : suc place - 1 ≡ place = omega arith in rw e

-- ---- `halt_above`

-- The halts that are left to store from here are those that were to be stored from the start.
pub record Halting (cells : List ℕ) (base depth from : ℕ) (b₀ b : Slices) (place at : ℕ) : Type 0 where
  pub over : base ≤ place
  pub within : place ≤ depth
  pub count : at + (place - base) ≡ from + (depth - base)
  pub left : store_all b at (halts (place - base) (tasks_of cells place)) ≡ store_all b₀ from (halts (depth - base) (tasks_of cells depth))

module _ (cells : List ℕ) (base depth from : ℕ) (b₀ : Slices) where
  pub halting_begins : base ≤ depth → Halting cells base depth from b₀ b₀ depth from
  halting_begins h = record { over = h; within = omega arith; count = refl; left = refl }

  pub halting_more : (b : Slices) (place at : ℕ) → Halting cells base depth from b₀ b place at → base < place
      → (operand : ℕ) → operand ≡ resumed (tasks_of cells (place - 1))
      → (b' : Slices) → b' ≡ store b at (record { kind = 4; task = get_or cells (place - 1) 0; operand = operand })
      → Halting cells base depth from b₀ b' (place - 1) (at + 1)
  halting_more b zero at k h operand is b' e = absurd (omega arith)
  halting_more b (suc place) at k h operand is b' e =
      let w = k.within in
      let c = k.count in
      let p : suc place - 1 ≡ place = omega arith in
      let q : suc place - base ≡ suc (place - base) = omega arith in
      let o : operand ≡ resumed (tasks_of cells place) = rw p at is in
      let f : b' ≡ store b at (halt (get_or cells place 0) (tasks_of cells place)) = rw (p, o) at e in
      rw p (record { over = omega arith; within = omega arith; count = omega arith; left = rw f (rw q at k.left) })

  pub halting_whole : (b : Slices) (place at : ℕ) → Halting cells base depth from b₀ b place at → place ≤ base
      → b ≡ store_all b₀ from (halts (depth - base) (tasks_of cells depth))
  halting_whole b place at k h =
      let q : place - base ≡ 0 = omega arith in
      rw q at k.left
