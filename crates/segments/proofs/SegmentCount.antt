-- At most 3,071 segments begin in a trace that keeps the rules: with u numbers used there were u - 1 forks, each task but the a active ones has halted,
-- and each halted one but those of `left` was joined. So three tables of 1,024 cells hold the order of the segments. Assumes nothing.
use Prim.Native.Nat.{ℕ, suc, ◌+◌, ◌<◌, ◌≤◌}
use mathlib.Core.Path.{◌≡◌}
use mathlib.Core.List.{List}
use native.Mathlib.Omega.{arith}
use lib.ListN.{length}
use Rattle.trace.specs.Trace.{Trace, TASKS}
use Rattle.trace.specs.Line.{Line, passes, line_after}
use Rattle.segments.specs.Segments.{moves}
use Rattle.trace.proofs.Stacks.{distinct_length}
use Rattle.trace.proofs.Run.{Run, start, access, fork, join, halt, used_numbers}
use Rattle.trace.proofs.TwoStacks.{run_of}
use Rattle.segments.proofs.SegmentFacts.{moves_access, moves_move, fork_moves, join_moves, halt_moves}

module _ (haltRule : Line → ℕ) (tr : Trace) where
  pub record Counted (n : ℕ) (left active used : List ℕ) : Type 0 where
    pub counted : moves tr n + suc (length active + length active + length left) ≡ length used + length used + length used
    pub some_task : 0 < length active + length left

  pub counted_run : {n : ℕ} {left active used : List ℕ} {last : ℕ → ℕ} → Run haltRule tr n left active used last →
      Counted n left active used
  unfolding moves
  counted_run start = record { counted = omega arith; some_task = omega arith }
  counted_run (access {n = n} run k o) =
      let c = counted_run run in record { counted = omega (arith, c.counted, moves_access tr n k); some_task = omega arith }
  counted_run (fork {n = n} run k o new) =
      let c = counted_run run in record { counted = omega (arith, c.counted, moves_move tr n (fork_moves tr n k)); some_task = omega arith }
  counted_run (join {n = n} run k) =
      let c = counted_run run in record { counted = omega (arith, c.counted, moves_move tr n (join_moves tr n k)); some_task = omega arith }
  counted_run (halt {n = n} run k o) =
      let c = counted_run run in record { counted = omega (arith, c.counted, moves_move tr n (halt_moves tr n k)); some_task = omega arith }

  few : {n : ℕ} {left active used : List ℕ} {last : ℕ → ℕ} → Run haltRule tr n left active used last → suc (moves tr n) ≤ 3071
  few {used = used} run =
      let c = counted_run run in
      let u = used_numbers haltRule tr run in
      omega (arith, c.counted, c.some_task, distinct_length TASKS used u.distinct u.small)

  -- The segments that have begun, 0 to moves n, are at most 3,071.
  pub segments_few : (n : ℕ) (line : Line) → line_after haltRule tr n ≡ passes line → suc (moves tr n) ≤ 3071
  segments_few n line e = few (run_of haltRule tr n line e).run
