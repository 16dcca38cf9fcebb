-- Laws of arcs and paths in the graph of the first `graph` events of a trace: paths never leave the graph, they can be put together, and where arcs
-- lead forward paths do too. Assumes nothing; that arcs lead forward is asked for by name, as `Forward`.
use Prim.Native.Nat.{ℕ, ◌<◌, ◌≤◌}
use mathlib.Core.Path.{refl}
use native.Mathlib.Omega.{arith}
use Rattle.trace.specs.Trace.{Trace}
use Rattle.trace.specs.Graph.{Arc, to_next, to_child, to_join, Reach, here, more}

-- Each arc of the graph leads to a later position.
abbrev pub Forward : Trace → ℕ → Type 0
Forward tr graph = (p q : ℕ) → Arc tr graph p q → p < q

module _ {tr : Trace} {graph : ℕ} where
  -- Both ends of an arc are events of the graph.
  pub arc_inside : {p q : ℕ} → Arc tr graph p q → (p < graph) × (q < graph)
  arc_inside (to_next before inside same between) = (omega arith, inside)
  arc_inside (to_child start end fork child first) = (start, end)
  arc_inside (to_join start end halt join named) = (start, end)

  -- Paths never leave the graph: both ends are events of it.
  pub reach_inside : {p q : ℕ} → Reach tr graph p q → (p < graph) × (q < graph)
  reach_inside (here inside same) = (omega arith, inside)
  reach_inside (more path arc) = ((reach_inside path).0, (arc_inside arc).1)

  -- Each event of the graph reaches itself.
  pub reach_refl : {p : ℕ} → p < graph → Reach tr graph p p
  reach_refl inside = here inside refl

  -- An arc is a path.
  pub reach_arc : {p q : ℕ} → Arc tr graph p q → Reach tr graph p q
  reach_arc arc = more (reach_refl (arc_inside arc).0) arc

  -- One path after another is a path.
  pub reach_trans : {p q r : ℕ} → Reach tr graph p q → Reach tr graph q r → Reach tr graph p r
  reach_trans path (here inside same) = rw same at path
  reach_trans path (more rest arc) = more (reach_trans path rest) arc

  -- An arc, then a path.
  pub reach_cons : {p q r : ℕ} → Arc tr graph p q → Reach tr graph q r → Reach tr graph p r
  reach_cons arc path = reach_trans (reach_arc arc) path

  -- Where arcs lead forward, a path leads to no earlier position.
  pub reach_le : {p q : ℕ} → Forward tr graph → Reach tr graph p q → p ≤ q
  reach_le forward (here inside same) = omega arith
  reach_le forward (more {m = m} {q = q} path arc) = omega (arith, reach_le forward path, forward m q arc)
