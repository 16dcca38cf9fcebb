-- Row 6, "task 0 has halted": where the rules are kept, no task is active exactly if some event was a halt of task 0. So the row's condition in
-- `specs/Line`, that the list of active tasks is empty, is the document's. Assumes nothing.
use Prim.Native.Nat.{ℕ, suc, ◌<◌}
use mathlib.Core.Path.{◌≡◌, refl, ap}
use mathlib.Core.Bool.{false≢true}
use mathlib.Core.List.{List, [], ◌∷◌}
use mathlib.Core.Logic.{◌↔◌}
use native.Mathlib.Omega.{arith}
use Rattle.trace.specs.Trace.{Trace, HALT}
use Rattle.trace.specs.Line.{Line, passes, is_empty, line_after}
use Rattle.trace.proofs.Tests.{Tests, tests_map}
use Rattle.trace.proofs.Stacks.{in_eq}
use Rattle.trace.proofs.Run.{EndsInZero, Run, start, access, fork, join, halt, ends_in_zero, zero_active}
use Rattle.trace.proofs.TwoStacks.{run_of}
use Rattle.trace.proofs.Tips.{halts}

-- One of the first n events is a halt of task 0.
abbrev pub ZeroHalted : Trace → ℕ → Type 0
ZeroHalted tr n = (p : ℕ) × (p < n) × (tr.kind p ≡ HALT) × (tr.task p ≡ 0)

test_empty : (l : List ℕ) → Tests (is_empty l) (l ≡ [])
unfolding is_empty
test_empty [] = (λ e. refl, λ e. refl)
test_empty (y ∷ l) = (λ e. absurd (false≢true e), λ e. ap is_empty e)

module _ (haltRule : Line → ℕ) (tr : Trace) where
  halted_empty : {n : ℕ} {left used : List ℕ} {last : ℕ → ℕ} (active : List ℕ) → Run haltRule tr n left active used last → ZeroHalted tr n
      → active ≡ []
  halted_empty [] run w = refl
  halted_empty (x ∷ paused) run w =
      absurd ((halts haltRule tr run).not_active w.0 w.1 w.2 (in_eq (x ∷ paused) w.3 (zero_active haltRule tr run)))

  abbrev HaltedIfEmpty : ℕ → List ℕ → Type 0
  HaltedIfEmpty n [] = ZeroHalted tr n
  HaltedIfEmpty n (x ∷ l) = Unit {0}

  empty_halted : {n : ℕ} {left active used : List ℕ} {last : ℕ → ℕ} → Run haltRule tr n left active used last → HaltedIfEmpty n active
  empty_halted start = tt
  empty_halted (access run k o) = tt
  empty_halted (fork run k o new) = tt
  empty_halted (join run k) = tt
  empty_halted (halt {n = n} {paused = paused} run k o) = ends paused (ends_in_zero haltRule tr run)
    where
      ends : (l : List ℕ) → EndsInZero (tr.task n ∷ l) → HaltedIfEmpty (suc n) l
      ends [] e = (n, omega arith, k, e)
      ends (y ∷ l) e = tt

  -- No task of a run is active exactly if task 0 has halted.
  pub active_empty_iff : {n : ℕ} {left active used : List ℕ} {last : ℕ → ℕ} → Run haltRule tr n left active used last
      → (active ≡ []) ↔ ZeroHalted tr n
  active_empty_iff {n = n} {active = active} run =
      (λ e. let w : HaltedIfEmpty n [] = rw e at (empty_halted run) in w, halted_empty active run)

  -- ROW 6 holds exactly if task 0 has halted.
  pub test_row_6 : (n : ℕ) (line : Line) → line_after haltRule tr n ≡ passes line → Tests (is_empty line.active) (ZeroHalted tr n)
  test_row_6 n line e =
      let r = run_of haltRule tr n line e in
      let halted = active_empty_iff r.run in
      rw r.line_is (tests_map halted.0 halted.1 (test_empty r.active))
