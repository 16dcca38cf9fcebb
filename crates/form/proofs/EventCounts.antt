-- How many halts a line implies, how many events it makes, and how deep it leaves the stack. Assumes nothing.
use Prim.Native.Nat.{ℕ, zero, suc, ◌+◌, ◌≤◌}
use native.Mathlib.Omega.{arith}
use mathlib.Core.Path.{◌≡◌, refl, ap}
use mathlib.Core.List.{List, [], ◌∷◌}
use lib.Dec.{eqb}
use lib.ListN.{length, drop, length-append, length-drop}
use Rattle.trace.proofs.Tests.{by_test}
use Rattle.form.specs.Events.{halts, above, implied, events_of, pushed, stack_after}
use Rattle.form.specs.declared.Line.{Line}
use Rattle.form.specs.declared.Operation.{Operation}
use Rattle.form.specs.declared.Operation.TheVariants.{Read, Write, Fork, Join}
use Rattle.numbers.proofs.Tokens.{by_token}

pub implied_le : (task : ℕ) (stack : List ℕ) → implied task stack ≤ length stack
implied_le task [] = omega arith
implied_le task (x ∷ stack) =
    by_test (eqb x task) (λ e. rw e (omega arith))
    (λ e. by_token (above task stack) (λ f. rw (e, f) (omega arith))
    (λ n f. let i : n ≤ length stack = rw f at (implied_le task stack) in rw (e, f) (omega arith)))

pub length_halts : (k : ℕ) (stack : List ℕ) → k ≤ length stack → length (halts k stack) ≡ k
length_halts zero stack h = refl
length_halts (suc k) [] h = absurd (omega arith)
length_halts (suc k) (x ∷ stack) h = ap suc (length_halts k stack (omega arith))

pub length_events : (stack : List ℕ) (l : Line) → length (events_of stack l) ≡ implied l.task stack + 1
unfolding events_of
length_events stack l =
    let h = length_halts (implied l.task stack) stack (implied_le l.task stack) in simp length-append (omega arith)

pub length_stack_after : (stack : List ℕ) (l : Line) → length (stack_after stack l) ≤ length stack + 1
unfolding stack_after
length_stack_after stack l =
    let d = length-drop (implied l.task stack) stack in
    length_pushed l.operation l.operand (drop (implied l.task stack) stack) (length stack) (omega arith)
  where
    length_pushed : (o : Operation) (t : ℕ) (s : List ℕ) (n : ℕ) → length s ≤ n → length (pushed o t s) ≤ n + 1
    length_pushed Read t s n h = omega arith
    length_pushed Write t s n h = omega arith
    length_pushed Fork t s n h = omega arith
    length_pushed Join t s n h = omega arith
