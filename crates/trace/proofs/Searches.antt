-- The computed tests of `specs/Search` are the relations of `specs/Graph` and `specs/Race`: each search passes exactly if its relation holds, in every
-- graph whose arcs lead forward, and so in the graph of every trace. Assumes nothing.
use Prim.Native.Nat.{ℕ, zero, suc, ◌<◌, ◌≤◌}
use mathlib.Core.Path.{◌≡◌}
use mathlib.Core.Bool.{Bool, true}
use mathlib.Core.Logic.{◌⊎◌, inl, inr}
use native.Mathlib.Omega.{arith}
use Rattle.trace.specs.Trace.{Trace, FORK, JOIN, HALT}
use Rattle.trace.specs.Line.{Line}
use Rattle.trace.specs.Graph.{Arc, to_next, to_child, to_join, Reach, here, more, graph_events}
use Rattle.trace.specs.Race.{Conflict, Race}
use Rattle.trace.specs.Search.{next?, child?, join?, arc?, chain?, reach?, conflict?, race?}
use Rattle.trace.proofs.Tests.{either, Tests, tests_map, test_eq, test_lt, test_self, test_and, test_or, test_not, test_when, test_some}
use Rattle.trace.proofs.Paths.{Forward, arc_inside, reach_inside}
use Rattle.trace.proofs.Forward.{graph_forward}

flat : {A B C : Type 0} {b : Bool} → Tests b ((A × B) × C) → Tests b (A × B × C)
flat t = tests_map (λ h. (h.0.0, h.0.1, h.1)) (λ h. ((h.0, h.1), h.2)) t

module _ (tr : Trace) where
  -- the three sentences of the arcs, as the tests put them
  abbrev Next : ℕ → ℕ → Type 0
  Next p q = (p < q) × (tr.task q ≡ tr.task p) × ((r : ℕ) × (r < q) × ((p < r) × (tr.task r ≡ tr.task p)) → ⊥)

  abbrev Child : ℕ → ℕ → Type 0
  Child p q = (tr.kind p ≡ FORK) × (tr.task q ≡ tr.operand p) × ((r : ℕ) × (r < q) × (tr.task r ≡ tr.operand p) → ⊥)

  abbrev Join : ℕ → ℕ → Type 0
  Join p q = (tr.kind p ≡ HALT) × (tr.kind q ≡ JOIN) × (tr.operand q ≡ tr.task p)

  test_next : (p q : ℕ) → Tests (next? tr p q) (Next p q)
  unfolding next?
  test_next p q =
      flat
      (test_and _ _ (test_and _ _ (test_lt p q) (test_eq (tr.task q) (tr.task p)))
      (test_not _
      (test_some q _ (λ r. (p < r) × (tr.task r ≡ tr.task p)) (λ r. test_and _ _ (test_lt p r) (test_eq (tr.task r) (tr.task p))))))

  test_child : (p q : ℕ) → Tests (child? tr p q) (Child p q)
  unfolding child?
  test_child p q =
      flat
      (test_and _ _ (test_and _ _ (test_eq (tr.kind p) FORK) (test_eq (tr.task q) (tr.operand p)))
      (test_not _ (test_some q _ (λ r. tr.task r ≡ tr.operand p) (λ r. test_eq (tr.task r) (tr.operand p)))))

  test_join : (p q : ℕ) → Tests (join? tr p q) (Join p q)
  unfolding join?
  test_join p q =
      flat (test_and _ _ (test_and _ _ (test_eq (tr.kind p) HALT) (test_eq (tr.kind q) JOIN)) (test_eq (tr.operand q) (tr.task p)))

module _ (tr : Trace) (n : ℕ) where
  -- either way of putting an arc
  abbrev Drawn : ℕ → ℕ → Type 0
  Drawn p q = ((p < n) × (q < n)) × ((Next tr p q ⊎ Child tr p q) ⊎ Join tr p q)

  arc_of : (p q : ℕ) → Drawn p q → Arc tr n p q
  arc_of p q h =
      either h.1
      (λ w.
      either w (λ a. to_next a.0 h.0.1 a.1 (λ r i j e. a.2 (r, j, (i, e))))
      (λ b. to_child h.0.0 h.0.1 b.0 b.1 (λ r j e. b.2 (r, j, e))))
      (λ c. to_join h.0.0 h.0.1 c.0 c.1 c.2)

  of_arc : {p q : ℕ} → Arc tr n p q → Drawn p q
  of_arc (to_next before inside same between) =
      ((omega arith, inside), inl (inl (before, same, λ w. between w.0 w.2.0 w.1 w.2.1)))
  of_arc (to_child start end fork child first) = ((start, end), inl (inr (fork, child, λ w. first w.0 w.1 w.2)))
  of_arc (to_join start end halt join named) = ((start, end), inr (halt, join, named))

  -- The search finds an arc exactly if there is one.
  pub test_arc : (p q : ℕ) → Tests (arc? tr n p q) (Arc tr n p q)
  unfolding arc?
  test_arc p q =
      tests_map (arc_of p q) of_arc
      (test_and _ _ (test_and _ _ (test_lt p n) (test_lt q n)) (test_or _ _ (test_or _ _ (test_next tr p q) (test_child tr p q)) (test_join tr p q)))

  test_chain_more :
      (k p q : ℕ) → Tests (chain? tr n (suc k) p q) ((p ≡ q) ⊎ ((m : ℕ) × (m < n) × (Arc tr n m q × (chain? tr n k p m ≡ true))))
  unfolding chain?
  test_chain_more k p q =
      test_or _ _ (test_eq p q)
      (test_some n _ (λ m. Arc tr n m q × (chain? tr n k p m ≡ true)) (λ m. test_when _ _ (test_arc m q) (test_self _)))

  chain_reach : (k p q : ℕ) → q < n → chain? tr n k p q ≡ true → Reach tr n p q
  unfolding chain?
  chain_reach zero p q h e = here h ((test_eq p q).0 e)
  chain_reach (suc k) p q h e =
      either ((test_chain_more k p q).0 e) (λ same. here h same) (λ w. more (chain_reach k p w.0 w.1 w.2.1) w.2.0)

  reach_chain : Forward tr n → (k p : ℕ) {q : ℕ} → Reach tr n p q → q ≤ k → chain? tr n k p q ≡ true
  unfolding chain?
  reach_chain forward zero p (here h same) l = (test_eq p _).1 same
  reach_chain forward (suc k) p (here h same) l = (test_chain_more k p _).1 (inl same)
  reach_chain forward zero p (more {m = m} {q = q} path arc) l = let i = forward m q arc in absurd (omega arith)
  reach_chain forward (suc k) p (more {m = m} {q = q} path arc) l =
      let i = forward m q arc in
      (test_chain_more k p q).1 (inr (m, (arc_inside arc).0, (arc, reach_chain forward k p path (omega arith))))

  -- THE COMPUTED REACH IS THE RELATION.
  pub test_reach : Forward tr n → (p q : ℕ) → Tests (reach? tr n p q) (Reach tr n p q)
  unfolding reach?
  test_reach forward p q =
      tests_map (λ h. chain_reach n p q h.0 h.1)
      (λ path. let h = (reach_inside path).1 in (h, reach_chain forward n p path (omega arith)))
      (test_and _ _ (test_lt q n) (test_self _))

  pub test_conflict : (p q : ℕ) → Tests (conflict? tr n p q) (Conflict tr n p q)
  unfolding conflict?
  test_conflict p q =
      tests_map
      (λ h.
      record {
        first_event = h.0.0.0.0.0;
        second_event = h.0.0.0.0.1;
        first_access = h.0.0.0.1;
        second_access = h.0.0.1;
        one_location = h.0.1;
        conflicting_kinds = h.1;
      })
      (λ c. (((((c.first_event, c.second_event), c.first_access), c.second_access), c.one_location), c.conflicting_kinds))
      (test_and _ _
      (test_and _ _ (test_and _ _ (test_and _ _ (test_and _ _ (test_lt p n) (test_lt q n)) (test_self _)) (test_self _))
      (test_eq (tr.operand p) (tr.operand q)))
      (test_self _))

  -- THE COMPUTED RACE TEST IS THE RELATION.
  pub test_race : Forward tr n → (p q : ℕ) → Tests (race? tr n p q) (Race tr n p q)
  unfolding race?
  test_race forward p q =
      tests_map (λ h. record { conflict = h.0; not_forth = h.1.0; not_back = h.1.1 })
      (λ r. (r.conflict, (r.not_forth, r.not_back)))
      (test_when _ _ (test_conflict p q) (test_and _ _ (test_not _ (test_reach forward p q)) (test_not _ (test_reach forward q p))))

-- The graph of the first n events of every trace.
module _ (haltRule : Line → ℕ) (tr : Trace) (n : ℕ) where
  pub test_reach_graph : (p q : ℕ) → Tests (reach? tr (graph_events haltRule tr n) p q) (Reach tr (graph_events haltRule tr n) p q)
  test_reach_graph = test_reach tr (graph_events haltRule tr n) (graph_forward haltRule tr n)

  pub test_race_graph : (p q : ℕ) → Tests (race? tr (graph_events haltRule tr n) p q) (Race tr (graph_events haltRule tr n) p q)
  test_race_graph = test_race tr (graph_events haltRule tr n) (graph_forward haltRule tr n)
