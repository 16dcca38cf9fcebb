-- Which row the lengths of the lent slices meet: a law for each return of `check_sizes` and `check_orders`. Assumes nothing.
use Prim.Native.Nat.{ℕ, ◌+◌, ◌<◌, ◌≤◌}
use mathlib.Core.Path.{◌≡◌, sym}
use mathlib.Core.Bool.{true}
use mathlib.Core.List.{List}
use mathlib.Core.Logic.{◌≢◌}
use lib.Dec.{eqb}
use lib.ListN.{length}
use borrow.Author.Tests.{eq-eqb, ne_eqb, lt-ltb, le-ltb}
use Rattle.trace.specs.Trace.{MAX_EVENTS, WORKSPACE_CELLS}
use Rattle.trace.specs.Line.{passes, fails, row}
use Rattle.trace.specs.Outcome.{sizes, order_room}

module _ (kinds tasks operands workspace : List ℕ) where
  pub sizes_unequal_tasks : length tasks ≢ length kinds → fails 1 ≡ sizes kinds tasks operands workspace
  unfolding sizes row
  sizes_unequal_tasks e = rw (ne_eqb (length kinds) (length tasks) (λ q. e (sym q)))

  pub sizes_unequal_operands : length tasks ≡ length kinds → length operands ≢ length kinds → fails 1 ≡ sizes kinds tasks operands workspace
  unfolding sizes row
  sizes_unequal_operands t e = rw (eq-eqb (length kinds) (length tasks) (sym t), ne_eqb (length kinds) (length operands) (λ q. e (sym q)))

  module _ (t : length tasks ≡ length kinds) (o : length operands ≡ length kinds) where
    same_tasks : eqb (length kinds) (length tasks) ≡ true
    same_tasks = eq-eqb (length kinds) (length tasks) (sym t)

    same_operands : eqb (length kinds) (length operands) ≡ true
    same_operands = eq-eqb (length kinds) (length operands) (sym o)

    pub sizes_many : MAX_EVENTS < length kinds → fails 2 ≡ sizes kinds tasks operands workspace
    unfolding sizes row
    sizes_many h = rw (same_tasks, same_operands, lt-ltb MAX_EVENTS (length kinds) h)

    pub sizes_short : length kinds ≤ MAX_EVENTS → length workspace < WORKSPACE_CELLS + length kinds → fails 3 ≡ sizes kinds tasks operands workspace
    unfolding sizes row
    sizes_short h k =
        rw (same_tasks, same_operands, le-ltb MAX_EVENTS (length kinds) h, lt-ltb (length workspace) (WORKSPACE_CELLS + length kinds) k)

    pub sizes_fit : length kinds ≤ MAX_EVENTS → WORKSPACE_CELLS + length kinds ≤ length workspace → passes (length kinds) ≡ sizes kinds tasks operands workspace
    unfolding sizes row
    sizes_fit h k =
        rw (same_tasks, same_operands, le-ltb MAX_EVENTS (length kinds) h, le-ltb (length workspace) (WORKSPACE_CELLS + length kinds) k)

module _ (n : ℕ) (first second : List ℕ) where
  pub orders_first : length first < n → fails 4 ≡ order_room first second (passes n)
  unfolding order_room row
  orders_first h = rw (lt-ltb (length first) n h)

  pub orders_second : n ≤ length first → length second < n → fails 4 ≡ order_room first second (passes n)
  unfolding order_room row
  orders_second h k = rw (le-ltb (length first) n h, lt-ltb (length second) n k)

  pub orders_fit : n ≤ length first → n ≤ length second → passes n ≡ order_room first second (passes n)
  unfolding order_room row
  orders_fit h k = rw (le-ltb (length first) n h, le-ltb (length second) n k)
