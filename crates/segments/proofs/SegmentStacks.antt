-- The stacks of segments name the stacks of tasks: each paused task's segment in `forks` ended in an event of that task, its fork, and each segment in
-- `halts` ended in the halt of its task of `left`. So the stacks of segments are as long as those of tasks. Assumes nothing.
use Prim.Native.Nat.{ℕ, suc, ◌+◌, ◌<◌, ◌≤◌}
use mathlib.Core.Path.{◌≡◌, refl}
use mathlib.Core.List.{List, [], ◌∷◌, tail}
use native.Mathlib.Omega.{arith}
use lib.ListN.{length}
use Rattle.trace.specs.Trace.{Trace, FORK, HALT, TASKS}
use Rattle.trace.specs.Line.{Line}
use Rattle.segments.specs.Segments.{moves, segments}
use Rattle.trace.proofs.Run.{Run, start, access, fork, join, halt, stacks_length}
use Rattle.segments.proofs.SegmentFacts.{segments_access, opens_fork, opens_join, opens_halt}

-- The segment g ended in an event of the task y, of kind k, among the first n.
abbrev pub EndedIn : Trace → ℕ → ℕ → ℕ → ℕ → Type 0
EndedIn tr n k y g = (e : ℕ) × (e < n) × (tr.kind e ≡ k) × (moves tr e ≡ g) × (tr.task e ≡ y)

-- Entry by entry of two stacks, of tasks and of segments.
abbrev pub Ended : Trace → ℕ → ℕ → List ℕ → List ℕ → Type 0
Ended tr n k [] [] = Unit {0}
Ended tr n k [] (a ∷ m) = ⊥
Ended tr n k (y ∷ l) [] = ⊥
Ended tr n k (y ∷ l) (a ∷ m) = EndedIn tr n k y a × Ended tr n k l m

ended_more : (tr : Trace) (n k : ℕ) (l m : List ℕ) → Ended tr n k l m → Ended tr (suc n) k l m
ended_more tr n k [] [] c = tt
ended_more tr n k [] (a ∷ m) c = c
ended_more tr n k (y ∷ l) [] c = c
ended_more tr n k (y ∷ l) (a ∷ m) c =
    let (e, h, i, j, t) = c.0 in ((e, omega arith, i, j, t), ended_more tr n k l m c.1)

ended_tail : (tr : Trace) (n k : ℕ) (l m : List ℕ) → Ended tr n k l m → Ended tr n k (tail l) (tail m)
ended_tail tr n k [] [] c = tt
ended_tail tr n k [] (a ∷ m) c = absurd c
ended_tail tr n k (y ∷ l) [] c = absurd c
ended_tail tr n k (y ∷ l) (a ∷ m) c = c.1

pub ended_length : (tr : Trace) (n k : ℕ) (l m : List ℕ) → Ended tr n k l m → length l ≡ length m
ended_length tr n k [] [] c = refl
ended_length tr n k [] (a ∷ m) c = absurd c
ended_length tr n k (y ∷ l) [] c = absurd c
ended_length tr n k (y ∷ l) (a ∷ m) c = omega (arith, ended_length tr n k l m c.1)

pub record Stacked (tr : Trace) (n : ℕ) (left active : List ℕ) : Type 0 where
  pub of_forks : Ended tr n FORK (tail active) (segments tr n).forks
  pub of_halts : Ended tr n HALT left (segments tr n).halts

module _ (haltRule : Line → ℕ) (tr : Trace) where
  stacked_start : Stacked tr 0 [] (0 ∷ [])
  unfolding segments
  stacked_start = record { of_forks = tt; of_halts = tt }

  -- At every moment of a run.
  pub stacked : {n : ℕ} {left active used : List ℕ} {last : ℕ → ℕ} → Run haltRule tr n left active used last → Stacked tr n left active
  stacked start = stacked_start
  stacked (access {n = n} {left = left} {paused = paused} run k o) =
      let s = stacked run in
      record {
        of_forks = rw (segments_access tr n k) (ended_more tr n FORK paused (segments tr n).forks s.of_forks);
        of_halts = rw (segments_access tr n k) (ended_more tr n HALT left (segments tr n).halts s.of_halts);
      }
  stacked (fork {n = n} {left = left} {paused = paused} run k o new) =
      let s = stacked run in
      let next = opens_fork tr n k in
      record {
        of_forks = rw next.forks_are ((n, omega arith, k, refl, refl), ended_more tr n FORK paused (segments tr n).forks s.of_forks);
        of_halts = rw next.halts_are (ended_more tr n HALT left (segments tr n).halts s.of_halts);
      }
  stacked (join {n = n} {left = left} {paused = paused} run k) =
      let s = stacked run in
      let next = opens_join tr n k in
      record {
        of_forks = rw next.forks_are (ended_more tr n FORK paused (segments tr n).forks s.of_forks);
        of_halts =
            rw next.halts_are
            (ended_more tr n HALT left (tail (segments tr n).halts) (ended_tail tr n HALT (tr.operand n ∷ left) (segments tr n).halts s.of_halts));
      }
  stacked (halt {n = n} {left = left} {paused = paused} run k o) =
      let s = stacked run in
      let next = opens_halt tr n k in
      record {
        of_forks =
            rw next.forks_are
            (ended_more tr n FORK (tail paused) (tail (segments tr n).forks) (ended_tail tr n FORK paused (segments tr n).forks s.of_forks));
        of_halts = rw next.halts_are ((n, omega arith, k, refl, refl), ended_more tr n HALT left (segments tr n).halts s.of_halts);
      }

  tail_length : (l : List ℕ) → length (tail l) ≤ length l
  tail_length [] = omega arith
  tail_length (y ∷ l) = omega arith

  -- Two tables of 1,024 cells hold them.
  pub stacked_length : {n : ℕ} {left active used : List ℕ} {last : ℕ → ℕ} → Run haltRule tr n left active used last →
      length (segments tr n).forks + length (segments tr n).halts ≤ TASKS
  stacked_length {n = n} {left = left} {active = active} run =
      let s = stacked run in
      let a = ended_length tr n FORK (tail active) (segments tr n).forks s.of_forks in
      let b = ended_length tr n HALT left (segments tr n).halts s.of_halts in
      omega (arith, tail_length active, stacks_length haltRule tr run)
