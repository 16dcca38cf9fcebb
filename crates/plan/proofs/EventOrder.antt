-- THE ORDER OF A PLAN'S EVENTS: the accesses stand as the leaves do in the text (`leaf_order`), and "Tasks are numbered 1, 2, 3 in fork order" (`fork_order`).
-- And how many there are (`events_length`). Assumes nothing.
use Prim.Native.Nat.{ℕ, zero, suc, ◌+◌}
use native.Mathlib.Omega.{arith}
use mathlib.Core.Path.{◌≡◌, refl, sym, ap, ◌∙◌}
use mathlib.Core.Bool.{Bool, cond}
use mathlib.Core.List.{List, [], ◌∷◌, ◌++◌, append-nil}
use lib.Dec.{eqb}
use lib.ListN.{length, length-append}
use Rattle.trace.specs.Trace.{Event, FORK, JOIN, HALT, is_access}
use Rattle.trace.specs.Orders.{count_up}
use Rattle.trace.proofs.Tests.{by_test}
use Rattle.plan.specs.Plans.{Plan, leaf, pair}
use Rattle.plan.specs.Events.{kind_of, event, forks, events_from, events_of}
use Rattle.plan.specs.Leaves.{events}
use Rattle.plan.specs.declared.Access.TheVariants.{Read, Write, Sum}
use Rattle.plan.specs.declared.Operator.TheVariants.{Series, Parallel}

-- ---- their number

pub events_length : (p : Plan) (x next : ℕ) → length (events_from p x next) ≡ events p
events_length (leaf k l) x next = refl
events_length (pair Series a b) x next =
    let i = events_length a x next in
    let j = events_length b x (next + forks a) in
    simp length-append (omega arith)
events_length (pair Parallel a b) x next =
    let i = events_length a next (next + 1) in
    let j = events_length b x (next + 1 + forks a) in
    simp length-append (omega arith)

-- ---- some of them

-- What is told of the events that pass a test, in their order.
module _ {A : Type 0} (test : Event → Bool) (part : Event → A) where
  abbrev chosen : List Event → List A
  chosen [] = []
  chosen (e ∷ es) = cond (test e) (part e ∷ chosen es) (chosen es)

  chosen_append : (es fs : List Event) → chosen (es ++ fs) ≡ chosen es ++ chosen fs
  chosen_append [] fs = refl
  chosen_append (e ∷ es) fs =
      let i = chosen_append es fs in
      by_test (test e) (λ t. rw (t, i)) (λ t. rw (t, i))

  -- A first event, some more, one, some more, and a last one: as P has them.
  chosen_parts : (first : Event) (es : List Event) (middle : Event) (fs : List Event) (last : Event)
      → chosen (first ∷ (es ++ (middle ∷ (fs ++ (last ∷ [])))))
      ≡ chosen (first ∷ []) ++ (chosen es ++ (chosen (middle ∷ []) ++ (chosen fs ++ chosen (last ∷ []))))
  chosen_parts first es middle fs last =
      rw (
        chosen_append (first ∷ []) (es ++ (middle ∷ (fs ++ (last ∷ [])))),
        chosen_append es (middle ∷ (fs ++ (last ∷ []))),
        chosen_append (middle ∷ []) (fs ++ (last ∷ [])),
        chosen_append fs (last ∷ []),
      )

-- ---- leaves

-- The kinds and locations of the leaves, from left to right.
abbrev pub leaves : Plan → List (ℕ × ℕ)
leaves (leaf k l) = (kind_of k, l) ∷ []
leaves (pair o a b) = leaves a ++ leaves b

-- The kinds and operands of the accesses among events, in order.
abbrev pub accesses : List Event → List (ℕ × ℕ)
accesses = chosen (λ e. is_access e.kind) (λ e. (e.kind, e.operand))

accesses_append : (es fs : List Event) → accesses (es ++ fs) ≡ accesses es ++ accesses fs
accesses_append = chosen_append (λ e. is_access e.kind) (λ e. (e.kind, e.operand))

accesses_parallel : (x next halt : ℕ) (es fs : List Event) {ls ms : List (ℕ × ℕ)} → accesses es ≡ ls → accesses fs ≡ ms
    → accesses (event FORK x next ∷ (es ++ (event HALT next halt ∷ (fs ++ (event JOIN x next ∷ []))))) ≡ ls ++ ms
unfolding is_access
accesses_parallel x next halt es fs {ls} {ms} i j =
    chosen_parts (λ e. is_access e.kind) (λ e. (e.kind, e.operand)) (event FORK x next) es (event HALT next halt) fs (event JOIN x next)
    ∙ rw (i, j, append-nil ms)

-- P "forks a task for G1, goes on with G2": the accesses are the leaves, from left to right.
pub leaf_order : (p : Plan) → accesses (events_of p) ≡ leaves p
unfolding is_access
leaf_order p = accesses_from p 0 1
  where
    accesses_from : (p : Plan) (x next : ℕ) → accesses (events_from p x next) ≡ leaves p
    accesses_from (leaf Read l) x next = refl
    accesses_from (leaf Write l) x next = refl
    accesses_from (leaf Sum l) x next = refl
    accesses_from (pair Series a b) x next =
        rw (accesses_append (events_from a x next) (events_from b x (next + forks a)), accesses_from a x next, accesses_from b x (next + forks a))
    accesses_from (pair Parallel a b) x next =
        accesses_parallel x next _ (events_from a next (next + 1)) (events_from b x (next + 1 + forks a))
        (accesses_from a next (next + 1)) (accesses_from b x (next + 1 + forks a))

-- ---- forks

count_up_add : (k m n : ℕ) → count_up k (m + n) ≡ count_up k m ++ count_up (k + m) n
count_up_add k zero n = let e : k + 0 ≡ k = omega arith in let z : 0 + n ≡ n = omega arith in rw (e, z)
count_up_add k (suc m) n =
    let i = count_up_add (suc k) m n in
    let e : suc k + m ≡ k + suc m = omega arith in
    let s : suc m + n ≡ suc (m + n) = omega arith in
    rw (s, i, e)

-- The tasks that events fork, in order.
abbrev pub forked : List Event → List ℕ
forked = chosen (λ e. eqb e.kind FORK) (λ e. e.operand)

forked_append : (es fs : List Event) → forked (es ++ fs) ≡ forked es ++ forked fs
forked_append = chosen_append (λ e. eqb e.kind FORK) (λ e. e.operand)

-- A fork of the next task, whose events fork m more, and then n more.
forked_parallel : (x next m n halt : ℕ) (es fs : List Event) → forked es ≡ count_up (next + 1) m → forked fs ≡ count_up (next + 1 + m) n
    → forked (event FORK x next ∷ (es ++ (event HALT next halt ∷ (fs ++ (event JOIN x next ∷ []))))) ≡ count_up next (1 + (m + n))
forked_parallel x next m n halt es fs i j =
    chosen_parts (λ e. eqb e.kind FORK) (λ e. e.operand) (event FORK x next) es (event HALT next halt) fs (event JOIN x next)
    ∙ rw (i, j, append-nil (count_up (next + 1 + m) n))
    (sym (count_up_add next 1 (m + n) ∙ ap (λ (z : List ℕ). next ∷ z) (count_up_add (next + 1) m n)))

-- "Tasks are numbered 1, 2, 3 in fork order."
pub fork_order : (p : Plan) → forked (events_of p) ≡ count_up 1 (forks p)
fork_order p = forked_from p 0 1
  where
    forked_from : (p : Plan) (x next : ℕ) → forked (events_from p x next) ≡ count_up next (forks p)
    forked_from (leaf Read l) x next = refl
    forked_from (leaf Write l) x next = refl
    forked_from (leaf Sum l) x next = refl
    forked_from (pair Series a b) x next =
        rw (forked_append (events_from a x next) (events_from b x (next + forks a)), forked_from a x next, forked_from b x (next + forks a))
        (sym (count_up_add next (forks a) (forks b)))
    forked_from (pair Parallel a b) x next =
        forked_parallel x next (forks a) (forks b) _ (events_from a next (next + 1)) (events_from b x (next + 1 + forks a))
        (forked_from a next (next + 1)) (forked_from b x (next + 1 + forks a))
