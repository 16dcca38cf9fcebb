-- Conflicts and races (document 01, "Paths, conflicts, races"; document 02, K3; source document 000, section 2.3), and the events that a race's two orders
-- put first. Assumes nothing.
use Rattle.std.specs.Prelude.{ℕ, ◌<◌, ◌≡◌, Bool, true, ◌&&◌, ◌||◌, ◌⊎◌, ◌≢◌, eqb}
use Rattle.trace.specs.Trace.{Trace, READ, WRITE, SUM, is_access}
use Rattle.trace.specs.Graph.{Reach}

-- Which kinds of two accesses to one location conflict: "at least one is a write", or one is a read and one a sum. "A sum conflicts with a read and with a
-- write of that location, and never with another sum."
unfoldable pub conflicting : ℕ → ℕ → Bool
conflicting j k = (eqb j WRITE || eqb k WRITE) || ((eqb j READ && eqb k SUM) || (eqb j SUM && eqb k READ))

-- In the graph of the first `graph` events:
module _ (tr : Trace) (graph : ℕ) where
  -- "Two accesses conflict if they have one location and at least one is a write", or one is a read and one a sum.
  pub record Conflict (p q : ℕ) : Type 0 where
    pub first_event : p < graph
    pub second_event : q < graph
    pub first_access : is_access (tr.kind p) ≡ true
    pub second_access : is_access (tr.kind q) ≡ true
    pub one_location : tr.operand p ≡ tr.operand q
    pub conflicting_kinds : conflicting (tr.kind p) (tr.kind q) ≡ true

  -- "They race if they conflict and neither reaches the other."
  pub record Race (p q : ℕ) : Type 0 where
    pub conflict : Conflict p q
    pub not_forth : Reach tr graph p q → ⊥
    pub not_back : Reach tr graph q p → ⊥

  -- "For a race let D be the events other than s and t that reach s or t": p is one of them.
  pub record InD (s t p : ℕ) : Type 0 where
    pub not_s : p ≢ s
    pub not_t : p ≢ t
    pub reaches : Reach tr graph p s ⊎ Reach tr graph p t
