-- Bounded searches over positions; and the relations of `Graph` and `Race` as tests, each by such a search. The theorems in `proofs/` say that each test is
-- its relation. Assumes nothing.
use Rattle.std.specs.Prelude.{ℕ, zero, suc, ◌+◌, max, Bool, true, false, cond, not, ◌&&◌, ◌||◌, eqb, ltb}
use Rattle.std.proofs.Math.Option.{Option, none, some}
use Rattle.trace.specs.Trace.{Trace, FORK, JOIN, HALT, is_access}
use Rattle.trace.specs.Race.{conflicting}
use Rattle.trace.specs.Orders.{or_this}

-- Some position below n passes the test.
unfoldable pub some_below : ℕ → (ℕ → Bool) → Bool
some_below zero test = false
some_below (suc n) test = test n || some_below n test

-- The least position below n that passes the test.
unfoldable pub least_below : ℕ → (ℕ → Bool) → Option ℕ
least_below zero test = none
least_below (suc n) test = or_this (least_below n test) (test n) n

-- The greatest one.
unfoldable pub greatest_below : ℕ → (ℕ → Bool) → Option ℕ
greatest_below zero test = none
greatest_below (suc n) test = cond (test n) (some n) (greatest_below n test)

-- 1 where a test passes, else 0.
abbrev pub bit : Bool → ℕ
bit true = 1
bit false = 0

-- How many numbers below n pass the test.
unfoldable pub count_below : ℕ → (ℕ → Bool) → ℕ
count_below zero test = 0
count_below (suc n) test = bit (test n) + count_below n test

-- The largest of the numbers that f has below n; 0 where n is 0.
unfoldable pub largest_below : ℕ → (ℕ → ℕ) → ℕ
largest_below zero f = 0
largest_below (suc n) f = max (f n) (largest_below n f)

module _ (tr : Trace) where
  -- q is the next event of p's task.
  unfoldable pub next? : ℕ → ℕ → Bool
  next? p q = ltb p q && eqb (tr.task q) (tr.task p) && not (some_below q (λ r. ltb p r && eqb (tr.task r) (tr.task p)))

  -- q is the first event of the task that p forks.
  unfoldable pub child? : ℕ → ℕ → Bool
  child? p q =
      eqb (tr.kind p) FORK && eqb (tr.task q) (tr.operand p) && not (some_below q (λ r. eqb (tr.task r) (tr.operand p)))

  -- q joins the task whose halt p is.
  unfoldable pub join? : ℕ → ℕ → Bool
  join? p q = eqb (tr.kind p) HALT && eqb (tr.kind q) JOIN && eqb (tr.operand q) (tr.task p)

-- In the graph of the first `graph` events:
module _ (tr : Trace) (graph : ℕ) where
  unfoldable pub arc? : ℕ → ℕ → Bool
  arc? p q = ltb p graph && ltb q graph && (next? tr p q || child? tr p q || join? tr p q)

  -- p is q, or a chain of at most k arcs leads from p to q. A `let` is computed only where it is used: the chain behind an arc is searched only where
  -- there is one.
  unfoldable pub chain? : ℕ → ℕ → ℕ → Bool
  chain? zero p q = eqb p q
  chain? (suc k) p q = eqb p q || some_below graph (λ m. let back = chain? k p m in cond (arc? m q) back false)

  -- No chain has more arcs than there are events: arcs lead forward.
  unfoldable pub reach? : ℕ → ℕ → Bool
  reach? p q = ltb q graph && chain? graph p q

  unfoldable pub conflict? : ℕ → ℕ → Bool
  conflict? p q =
      ltb p graph
      && ltb q graph
      && is_access (tr.kind p)
      && is_access (tr.kind q)
      && eqb (tr.operand p) (tr.operand q)
      && conflicting (tr.kind p) (tr.kind q)

  -- Paths are searched, again by a `let`, only where p and q conflict.
  unfoldable pub race? : ℕ → ℕ → Bool
  race? p q = let unordered = not (reach? p q) && not (reach? q p) in cond (conflict? p q) unordered false
