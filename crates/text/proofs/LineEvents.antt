-- The events of one line: the rows of `add_line`. Assumes nothing.
use Prim.Native.Nat.{ℕ, ◌+◌, ◌-◌, ◌≤◌, ◌<◌}
use native.Mathlib.Omega.{arith}
use mathlib.Core.Path.{◌≡◌, ◌∙◌}
use mathlib.Core.List.{List, [], ◌∷◌}
use mathlib.Core.Option.{none, some}
use lib.ListN.{length}
use borrow.Author.Tests.{lt-ltb, le-ltb}
use Rattle.trace.specs.Slices.{Slices, store, store_all}
use Rattle.trace.proofs.Slices.{store_all_append}
use Rattle.form.specs.Events.{halts, implied, kind_of, event_of, events_of, pushed, stack_after}
use Rattle.form.specs.Decided.{MAX_TEXT_EVENTS}
use Rattle.text.specs.Answers.{tasks_of, added}
use Rattle.form.specs.declared.Line.{Line}
use Rattle.form.proofs.EventCounts.{implied_le, length_halts, length_events}
use Rattle.text.proofs.StackLaws.{length_tasks, drop_tasks}

module _ (l : Line) (cells : List ℕ) (depth n base : ℕ) (b : Slices) (left : base ≡ depth - implied l.task (tasks_of cells depth)) where
  count : length (events_of (tasks_of cells depth) l) ≡ depth - base + 1
  count =
      let i = implied_le l.task (tasks_of cells depth) in
      let d = length_tasks cells depth in
      length_events (tasks_of cells depth) l ∙ omega arith

  pub added_full : MAX_TEXT_EVENTS ≤ n + (depth - base) → none ≡ added l (tasks_of cells depth) n b
  unfolding added
  added_full h = rw (lt-ltb MAX_TEXT_EVENTS (n + length (events_of (tasks_of cells depth) l)) (let c = count in omega arith))

  module _ (b₁ : Slices) (halted : b₁ ≡ store_all b n (halts (depth - base) (tasks_of cells depth))) where
    written : store b₁ (n + (depth - base)) (event_of l) ≡ store_all b n (events_of (tasks_of cells depth) l)
    unfolding events_of
    written =
        let i = implied_le l.task (tasks_of cells depth) in
        let d = length_tasks cells depth in
        let k : implied l.task (tasks_of cells depth) ≡ depth - base = omega arith in
        let m : length (halts (depth - base) (tasks_of cells depth)) ≡ depth - base
        = length_halts (depth - base) (tasks_of cells depth) (omega arith) in
        rw (halted, k, store_all_append b n (halts (depth - base) (tasks_of cells depth)) (event_of l ∷ []), m)

    left_stack : pushed l.operation l.operand (tasks_of cells base) ≡ stack_after (tasks_of cells depth) l
    unfolding stack_after
    left_stack = rw (drop_tasks, ← left)

    pub added_more : n + (depth - base) < MAX_TEXT_EVENTS
        → (kind : ℕ) → kind ≡ kind_of l.operation
        → (b₂ : Slices) → b₂ ≡ store b₁ (n + (depth - base)) (record { kind = kind; task = l.task; operand = l.operand })
        → (stack : List ℕ) → stack ≡ pushed l.operation l.operand (tasks_of cells base)
        → some (n + (depth - base) + 1, b₂, stack) ≡ added l (tasks_of cells depth) n b
    unfolding added
    added_more h kind is b₂ own stack after =
        let c = count in
        let e : n + (depth - base) + 1 ≡ n + length (events_of (tasks_of cells depth) l) = omega arith in
        let f : b₂ ≡ store_all b n (events_of (tasks_of cells depth) l) = (rw is at own) ∙ written in
        let g : stack ≡ stack_after (tasks_of cells depth) l = after ∙ left_stack in
        rw (le-ltb MAX_TEXT_EVENTS (n + length (events_of (tasks_of cells depth) l)) (omega arith), e, f, g)
