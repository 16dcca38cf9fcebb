-- Events that stand in a trace from a position on, and those of a plan's parts among its own. Assumes nothing.
use Prim.Native.Nat.{ℕ, ◌+◌}
use mathlib.Core.Path.{◌≡◌, subst}
use mathlib.Core.List.{List, [], ◌∷◌, ◌++◌}
use native.Mathlib.Omega.{arith}
use lib.ListN.{length}
use Rattle.trace.specs.Trace.{Trace, Event, FORK, JOIN, HALT}
use Rattle.plan.specs.Plans.{Plan, pair}
use Rattle.plan.specs.Events.{event, forks, events_from}
use Rattle.plan.specs.Leaves.{events}
use Rattle.plan.specs.declared.Operator.TheVariants.{Series, Parallel}
use Rattle.plan.proofs.EventOrder.{events_length}

module _ (tr : Trace) where
  pub record Is (p : ℕ) (e : Event) : Type 0 where
    pub kind_is : tr.kind p ≡ e.kind
    pub task_is : tr.task p ≡ e.task
    pub operand_is : tr.operand p ≡ e.operand

  -- From position n on stand these events.
  abbrev pub Stand : ℕ → List Event → Type 0
  Stand n [] = Unit {0}
  Stand n (e ∷ es) = Is n e × Stand (n + 1) es

  stand_at : {m n : ℕ} (es : List Event) → m ≡ n → Stand m es → Stand n es
  stand_at es e s = subst (λ (z : ℕ). Stand z es) e s

  stand_append : (n : ℕ) (es fs : List Event) → Stand n (es ++ fs) → Stand n es × Stand (n + length es) fs
  stand_append n [] fs s = (tt, stand_at fs (omega arith) s)
  stand_append n (e ∷ es) fs s = let i = stand_append (n + 1) es fs s.1 in ((s.0, i.0), stand_at fs (omega arith) i.1)

  -- The events of S,
  pub stand_series : (a b : Plan) (x next n : ℕ) → Stand n (events_from (pair Series a b) x next) →
      Stand n (events_from a x next) × Stand (n + events a) (events_from b x (next + forks a))
  stand_series a b x next n s =
      let i = stand_append n (events_from a x next) (events_from b x (next + forks a)) s in
      let l = events_length a x next in
      (i.0, stand_at (events_from b x (next + forks a)) (omega arith) i.1)

  -- and of P.
  pub record Parallels (a b : Plan) (x next n : ℕ) : Type 0 where
    pub forking : Is n (event FORK x next)
    pub one : Stand (n + 1) (events_from a next (next + 1))
    pub halting : Is (n + 1 + events a) (event HALT next x)
    pub two : Stand (n + 2 + events a) (events_from b x (next + 1 + forks a))
    pub joining : Is (n + 2 + events a + events b) (event JOIN x next)

  pub stand_parallel : (a b : Plan) (x next n : ℕ) → Stand n (events_from (pair Parallel a b) x next) → Parallels a b x next n
  stand_parallel a b x next n s =
      let es = events_from a next (next + 1) in
      let fs = events_from b x (next + 1 + forks a) in
      let l = events_length a next (next + 1) in
      let m = events_length b x (next + 1 + forks a) in
      let i = stand_append (n + 1) es (event HALT next x ∷ (fs ++ (event JOIN x next ∷ []))) s.1 in
      let j = stand_append (n + 1 + length es + 1) fs (event JOIN x next ∷ []) i.1.1 in
      record {
        forking = s.0;
        one = i.0;
        halting = rw l at i.1.0;
        two = stand_at fs (omega arith) j.0;
        joining = (stand_at {n = n + 2 + events a + events b} (event JOIN x next ∷ []) (omega arith) j.1).0;
      }
