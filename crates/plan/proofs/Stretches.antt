-- Stretches of a trace that are entered by one tip and left by one: an earlier event reaches all events of a stretch or none. The events of a plan are one, and so
-- those of S(G1,G2) are two in a row (`stretch_series`), and those of P(G1,G2) two beside each other (`stretch_parallel`). Assumes nothing.
use Prim.Native.Nat.{ℕ, suc, ◌+◌, ◌<◌, ◌≤◌}
use mathlib.Core.Path.{◌≡◌, refl, subst}
use mathlib.Core.List.{List}
use mathlib.Core.Logic.{◌⊎◌, inl, inr, ◌≢◌, ◌↔◌}
use native.Mathlib.Omega.{arith}
use Rattle.trace.specs.Trace.{Trace, JOIN}
use Rattle.trace.specs.Line.{Line}
use Rattle.trace.specs.Graph.{Reach}
use Rattle.trace.proofs.Tests.{either, lt_or_le}
use Rattle.trace.proofs.Paths.{Forward, reach_refl}
use Rattle.trace.proofs.Stacks.{In}
use Rattle.trace.proofs.Run.{Run}
use Rattle.trace.proofs.Tips.{ReachesTip, reach_own, reach_join, reach_from}

module _ (tr : Trace) (graph : ℕ) where
  -- The m events from n on. `from` and `to` name tips as `last` of a run does: one more than a position, 0 for none.
  pub record Stretch (n m from to : ℕ) : Type 0 where
    -- An earlier event reaches each of them exactly if it reaches the tip that they are entered by,
    pub into : (e q : ℕ) → e < n → n ≤ q → q < n + m → Reach tr graph e q ↔ ReachesTip tr graph e from
    -- and the tip that they are left by exactly if it reaches that one.
    pub through : (e : ℕ) → e < n → ReachesTip tr graph e to ↔ ReachesTip tr graph e from
    -- Each of them reaches the tip that they are left by.
    pub own : (e : ℕ) → n ≤ e → e < n + m → ReachesTip tr graph e to

  pub stretch_from : {n m from from' to : ℕ} → from ≡ from' → Stretch n m from to → Stretch n m from' to
  stretch_from {n} {m} {from} {from'} {to} e s = subst (λ (z : ℕ). Stretch n m z to) e s

  -- What reaches an event reaches the tip that it is.
  pub at_tip : {e n : ℕ} → Reach tr graph e n → ReachesTip tr graph e (suc n)
  at_tip {n = n} r = (n, refl, r)

  pub from_tip : {e n : ℕ} → ReachesTip tr graph e (suc n) → Reach tr graph e n
  from_tip {e} {n} t = let same : t.0 ≡ n = omega (arith, t.1) in subst (λ (z : ℕ). Reach tr graph e z) same t.2

  both : {A B C : Type 0} → A ↔ B → B ↔ C → A ↔ C
  both f g = (λ a. g.0 (f.0 a), λ c. f.1 (g.1 c))

  -- One event: what reaches it is what reaches the tip of its task.
  pub stretch_one : {n from : ℕ} → n < graph → ((e : ℕ) → e < n → Reach tr graph e n ↔ ReachesTip tr graph e from) → Stretch n 1 from (suc n)
  stretch_one {n} {from} inside f =
      record {
        into = λ e q h lo hi. let same : n ≡ q = omega arith in subst (λ (z : ℕ). Reach tr graph e z ↔ ReachesTip tr graph e from) same (f e h);
        through = λ e h. both (from_tip, at_tip) (f e h);
        own = λ e lo hi. let same : n ≡ e = omega arith in subst (λ (z : ℕ). ReachesTip tr graph z (suc n)) same (at_tip (reach_refl inside));
      }

  -- The one is entered by the tip that the other is left by.
  pub stretch_series : {n m k from between to : ℕ} → Stretch n m from between → Stretch (n + m) k between to → Stretch n (m + k) from to
  stretch_series {n} {m} {k} a b =
      record {
        into = λ e q h lo hi.
            either (lt_or_le q (n + m)) (λ l. a.into e q h lo l)
            (λ l. both (b.into e q (omega arith) l (omega arith)) (a.through e h));
        through = λ e h. both (b.through e (omega arith)) (a.through e h);
        own = λ e lo hi.
            either (lt_or_le e (n + m)) (λ l. (b.through e l).1 (a.own e lo l)) (λ l. b.own e l (omega arith));
      }

  -- A fork at n, a stretch of m events of the child with its halt last, a stretch of k events of the parent, and the join. The last event of the child is
  -- its tip, that of the parent is `parent`.
  pub stretch_parallel : {n m k from parent : ℕ} → Stretch n 1 from (suc n) → Stretch (n + 1) m (suc n) (n + 1 + m) →
      Stretch (n + 1 + m) k (suc n) parent → n + 1 + m + k < graph →
      ((e : ℕ) → e < n + 1 + m + k → Reach tr graph e (n + 1 + m + k) ↔ (ReachesTip tr graph e parent ⊎ ReachesTip tr graph e (n + 1 + m))) →
      Stretch n (2 + m + k) from (suc (n + 1 + m + k))
  stretch_parallel {n} {m} {k} {from} {parent} forking child on inside joining =
      let joined : (e : ℕ) → e < n → Reach tr graph e (n + 1 + m + k) ↔ ReachesTip tr graph e from = λ e h. (
        λ r. (forking.through e h).0 (either ((joining e (omega arith)).0 r) (on.through e (omega arith)).0 (child.through e (omega arith)).0),
        λ t. (joining e (omega arith)).1 (inl ((on.through e (omega arith)).1 ((forking.through e h).1 t))),
      ) in
      let last : (e : ℕ) → n ≤ e → e < n + (2 + m + k) → Reach tr graph e (n + 1 + m + k) = λ e lo hi.
      either (lt_or_le e (n + 1))
      (λ l. (joining e (omega arith)).1 (inl ((on.through e (omega arith)).1 (forking.own e lo l))))
      (λ l₁. either (lt_or_le e (n + 1 + m))
      (λ l. (joining e (omega arith)).1 (inr (child.own e l₁ l)))
      (λ l₂. either (lt_or_le e (n + 1 + m + k))
      (λ l. (joining e l).1 (inl (on.own e l₂ l)))
      (λ l₃. let same : n + 1 + m + k ≡ e = omega arith in subst (λ (z : ℕ). Reach tr graph z (n + 1 + m + k)) same (reach_refl inside)))) in
      record {
        into = λ e q h lo hi.
            either (lt_or_le q (n + 1)) (λ l. forking.into e q h lo l)
            (λ l₁. either (lt_or_le q (n + 1 + m))
            (λ l. both (child.into e q (omega arith) l₁ l) (forking.through e h))
            (λ l₂. either (lt_or_le q (n + 1 + m + k))
            (λ l. both (on.into e q (omega arith) l₂ l) (forking.through e h))
            (λ l₃. let same : n + 1 + m + k ≡ q = omega arith in
            subst (λ (z : ℕ). Reach tr graph e z ↔ ReachesTip tr graph e from) same (joined e h))));
        through = λ e h. both (from_tip, at_tip) (joined e h);
        own = λ e lo hi. at_tip (last e lo hi);
      }

-- ---- from a run

module _ (haltRule : Line → ℕ) (tr : Trace) (graph : ℕ) (forward : Forward tr graph) {n : ℕ} {left active used : List ℕ} {last : ℕ → ℕ}
    (run : Run haltRule tr n left active used last) (inside : n < graph) where
  -- An event that is no join.
  pub stretch_event : tr.kind n ≢ JOIN → Stretch tr graph n 1 (last (tr.task n)) (suc n)
  stretch_event other =
      stretch_one tr graph inside (λ e h. (
        λ r. either (reach_from haltRule tr graph forward run inside e h r) (λ t. t) (λ t. absurd (other t.0)),
        reach_own haltRule tr graph forward run inside e,
      ))

  -- What reaches a join.
  pub reach_joined : tr.kind n ≡ JOIN → In (tr.operand n) left → (e : ℕ) → e < n →
      Reach tr graph e n ↔ (ReachesTip tr graph e (last (tr.task n)) ⊎ ReachesTip tr graph e (last (tr.operand n)))
  reach_joined k i e h = (
    λ r. either (reach_from haltRule tr graph forward run inside e h r) (λ t. inl t) (λ t. inr t.1),
    λ t. either t (reach_own haltRule tr graph forward run inside e) (reach_join haltRule tr graph forward run inside e k i),
  )
