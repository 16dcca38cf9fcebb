-- A second linear order, beside that of the positions, of the segments of a trace: the runs of events between two moves (forks, joins and halts). A path
-- leads from an event to a later one exactly if its segment stands no later in this order (`proofs/TwoOrders`). Assumes nothing.
use Rattle.std.specs.Prelude.{ℕ, zero, suc, cond, eqb}
use mathlib.Core.List.{List, [], ◌∷◌, tail}
use Rattle.trace.specs.Trace.{Trace, FORK, JOIN, is_access}
use Rattle.trace.specs.Orders.{place}

-- ---- the segments

module _ (tr : Trace) where
  -- How many of the first n events are moves: no accesses. Each move ends a segment and opens the next, so this is the number of the open segment, too.
  unfoldable pub moves : ℕ → ℕ
  moves zero = 0
  moves (suc n) = cond (is_access (tr.kind n)) (moves n) (suc (moves n))

  -- The segment of event p: the open one, and for a join the one that it opens. A fork and a halt belong to the segment that they end.
  unfoldable pub segment : ℕ → ℕ
  segment p = cond (eqb (tr.kind p) JOIN) (suc (moves p)) (moves p)

-- ---- their order

-- The list with x put right after the first m; at its end where there is none.
unfoldable pub insert_after : ℕ → ℕ → List ℕ → List ℕ
insert_after m x [] = x ∷ []
insert_after m x (y ∷ l) = cond (eqb y m) (y ∷ (x ∷ l)) (y ∷ insert_after m x l)

-- The top of a stack; d where it is empty.
unfoldable pub top : ℕ → List ℕ → ℕ
top d [] = d
top d (y ∷ l) = y

-- The segments in their second order; those that ended in a fork whose child runs or is paused, and those that ended in the halt of a task that is not
-- joined yet, latest first.
pub record Segments : Type 0 where
  pub order : List ℕ
  pub forks : List ℕ
  pub halts : List ℕ

-- The segment that a move of kind k puts the next one after, where segment g is open: g itself for a fork; the joined task's last one for a join; for a
-- halt the one that ended in the fork of the task that halts. (g where there is none: after the halt of task 0 no event follows.)
unfoldable pub source : ℕ → ℕ → Segments → ℕ
source k g s = cond (eqb k FORK) g (cond (eqb k JOIN) (top g s.halts) (top g s.forks))

-- A move of kind k ends segment g and opens the next.
unfoldable pub opened : ℕ → ℕ → Segments → Segments
opened k g s =
    record {
      order = insert_after (source k g s) (suc g) s.order;
      forks = cond (eqb k FORK) (g ∷ s.forks) (cond (eqb k JOIN) s.forks (tail s.forks));
      halts = cond (eqb k FORK) s.halts (cond (eqb k JOIN) (tail s.halts) (g ∷ s.halts));
    }

module _ (tr : Trace) where
  unfoldable pub segments : ℕ → Segments
  segments zero = record { order = 0 ∷ []; forks = []; halts = [] }
  segments (suc n) = cond (is_access (tr.kind n)) (segments n) (opened (tr.kind n) (moves tr n) (segments n))

  -- The rank of event p after n events: the place of its segment.
  unfoldable pub rank : ℕ → ℕ → ℕ
  rank n p = place (segment tr p) (segments n).order
