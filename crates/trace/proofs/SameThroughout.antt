-- Demand 3, the clean half: "whatever order of all the events the cores take, so long as it keeps all arcs of the task graph, each read sees the same
-- write as in the trace itself, and each location ends with the same last write as there"; and "the same set of sums after that write" (document 02, K3).
--
-- The argument: where no two accesses race, accesses that conflict pairwise (the writes to a location, one read of it and one sum of it) are joined by
-- paths. So an order that keeps the arcs has them in position order. Cut down to them, it and the trace's own order are one list, and what the read sees and
-- the last write are found in that list. So is whether the sum stands after the last write: sums are taken one at a time, since two of them do not conflict.
-- Assumes nothing.
use Prim.Native.Nat.{ℕ, ◌<◌, ◌≤◌}
use native.Mathlib.Omega.{arith}
use mathlib.Core.Path.{◌≡◌, refl, sym, ap, ◌∙◌}
use mathlib.Core.Logic.{◌⊎◌, ◌↔◌, inl, inr}
use mathlib.Core.Bool.{Bool, true, ◌||◌}
use mathlib.Core.List.{List}
use lib.Dec.{eqb}
use Rattle.trace.specs.Trace.{Trace, READ, is_access}
use Rattle.trace.specs.Graph.{Reach, here, more}
use Rattle.trace.specs.Race.{Conflict, Race}
use Rattle.trace.specs.Orders.{occurrences, Order, place, KeepsArcs, positions, select, before, latest}
use Rattle.trace.specs.Orders.{writes, sums, last_write, SumSince, sees}
use Rattle.trace.specs.Demands.{SameThroughout}
use Rattle.trace.proofs.Tests.{Tests, either, lt_or_le, test_or, test_eq, test_self}
use Rattle.trace.proofs.Paths.{Forward, arc_inside, reach_le}
use Rattle.trace.proofs.Lists.{occurrences_before_le, place_injective, latest_select, latest_before_select, InOrder, cut_unique, rising_count_up}
use Rattle.trace.proofs.OrderFacts.{order_inside, order_at_most_once, positions_order, orders_same_entries, test_writes, test_sums, since_latest}
use Rattle.trace.proofs.EventKinds.{test_access}
use Rattle.trace.proofs.Conflicts.{write_access_conflict, sum_read_conflict}
use Rattle.trace.proofs.ConflictSymmetry.{conflict_sym}

-- An order that keeps all arcs has the end of a path no earlier than its start.
pub reach_place_le : {tr : Trace} {n : ℕ} (o : List ℕ) {p q : ℕ} → KeepsArcs tr n n o → Reach tr n p q → place p o ≤ place q o
reach_place_le o keeps (here inside same) = omega (arith, ap (λ (z : ℕ). place z o) same)
reach_place_le o keeps (more {m = m} {q = q} path arc) =
    let inside = arc_inside arc in
    omega (arith, reach_place_le o keeps path, keeps.earlier m q inside.0 inside.1 arc)

module _ (tr : Trace) (n : ℕ) (forward : Forward tr n) (race-free : (p q : ℕ) → Race tr n p q → ⊥)
    (o : List ℕ) (order : Order n o) (keeps : KeepsArcs tr n n o) where
  -- Events that conflict pairwise, cut out of the order and of the trace, are one list.
  pub cut_same :
      (test : ℕ → Bool) → ((p q : ℕ) → test p ≡ true → test q ≡ true → p < q → q < n → Conflict tr n p q)
      → select test o ≡ select test (positions n)
  cut_same test conflict =
      cut_unique test o (positions n) (orders_same_entries n o (positions n) order (positions_order n))
      (order_at_most_once n o order) in_order (rising_count_up 0 n)
    where
      in_order : InOrder test o
      in_order p q tp tq cp cq less =
          either (lt_or_le (place p o) (place q o)) (λ l. l)
          (λ l.
          absurd
          (race-free p q
          (record {
            conflict = conflict p q tp tq less (order_inside n o order q cq);
            not_forth = λ path.
                let forth = reach_place_le o keeps path in
                let same : p ≡ q = place_injective p q o cp (omega arith) in
                omega arith;
            not_back = λ path. omega (arith, reach_le forward path);
          })))

  -- The writes of a location conflict.
  writes_conflict : (l p q : ℕ) → p < n → q < n → writes tr l p ≡ true → writes tr l q ≡ true → Conflict tr n p q
  writes_conflict l p q lp lq write write' =
      let fact = (test_writes tr l q).0 write' in
      write_access_conflict tr n l p q lp lq write ((test_access (tr.kind q)).1 (inr (inl fact.0))) fact.1

  same_last_write : (l : ℕ) → last_write tr o l ≡ last_write tr (positions n) l
  same_last_write l =
      let test : ℕ → Bool = writes tr l in
      let cut = cut_same test (λ p q tp tq less inside. writes_conflict l p q (omega arith) inside tp tq) in
      sym (latest_select test test (λ p e. e) o) ∙ ap (latest test) cut ∙ latest_select test test (λ p e. e) (positions n)

  -- An access of a location, and the writes to it.
  module _ (l a : ℕ) (inside : a < n) (access : is_access (tr.kind a) ≡ true) (location : tr.operand a ≡ l) where
    unfoldable with_writes : ℕ → Bool
    with_writes p = writes tr l p || eqb p a

    test_with_writes : (p : ℕ) → Tests (with_writes p) ((writes tr l p ≡ true) ⊎ (p ≡ a))
    unfolding with_writes
    test_with_writes p = test_or _ _ (test_self (writes tr l p)) (test_eq p a)

    with_writes_conflict : (p q : ℕ) → with_writes p ≡ true → with_writes q ≡ true → p < q → q < n → Conflict tr n p q
    with_writes_conflict p q tp tq less inside-q =
        either ((test_with_writes p).0 tp)
        (λ write.
        either ((test_with_writes q).0 tq) (λ write'. writes_conflict l p q (omega arith) inside-q write write')
        (λ same. rw same (write_access_conflict tr n l p a (omega arith) inside write access location)))
        (λ same.
        either ((test_with_writes q).0 tq)
        (λ write. rw same (conflict_sym tr n (write_access_conflict tr n l q a inside-q inside write access location)))
        (λ same'. absurd (omega arith)))

  -- The write that a read sees.
  module _ (r : ℕ) (inside : r < n) (read : tr.kind r ≡ READ) where
    same_write : sees tr o r ≡ sees tr (positions n) r
    same_write =
        let l = tr.operand r in
        let access = (test_access (tr.kind r)).1 (inl read) in
        let test : ℕ → Bool = writes tr l in
        let wider : ℕ → Bool = with_writes l r inside access refl in
        let implied : (p : ℕ) → test p ≡ true → wider p ≡ true = λ p e. (test_with_writes l r inside access refl p).1 (inl e) in
        let itself : wider r ≡ true = (test_with_writes l r inside access refl r).1 (inr refl) in
        sym (latest_before_select test wider implied r itself o)
        ∙ ap (λ (z : List ℕ). latest test (before r z)) (cut_same wider (with_writes_conflict l r inside access refl))
        ∙ latest_before_select test wider implied r itself (positions n)

  -- A sum of a location, and the writes to it:
  module _ (l u : ℕ) (inside : u < n) (sum : sums tr l u ≡ true) where
    sum_access : is_access (tr.kind u) ≡ true
    sum_access = (test_access (tr.kind u)).1 (inr (inr ((test_sums tr l u).0 sum).0))

    abbrev since : ℕ → Bool
    since = with_writes l u inside sum_access ((test_sums tr l u).0 sum).1

    test_since : (p : ℕ) → Tests (since p) ((writes tr l p ≡ true) ⊎ (p ≡ u))
    test_since = test_with_writes l u inside sum_access ((test_sums tr l u).0 sum).1

    since_conflict : (p q : ℕ) → since p ≡ true → since q ≡ true → p < q → q < n → Conflict tr n p q
    since_conflict = with_writes_conflict l u inside sum_access ((test_sums tr l u).0 sum).1

    -- their latest at the end,
    latest_end : latest since o ≡ latest since (positions n)
    latest_end =
        sym (latest_select since since (λ p e. e) o)
        ∙ ap (latest since) (cut_same since since_conflict)
        ∙ latest_select since since (λ p e. e) (positions n)

    -- and before a read of the location.
    module _ (r : ℕ) (inside-r : r < n) (read : tr.kind r ≡ READ) (location : tr.operand r ≡ l) where
      unfoldable with_read : ℕ → Bool
      with_read p = since p || eqb p r

      test_with_read : (p : ℕ) → Tests (with_read p) ((since p ≡ true) ⊎ (p ≡ r))
      unfolding with_read
      test_with_read p = test_or _ _ (test_self (since p)) (test_eq p r)

      since_read : (p : ℕ) → since p ≡ true → p < n → Conflict tr n p r
      since_read p tp h =
          either ((test_since p).0 tp)
          (λ write. write_access_conflict tr n l p r h inside-r write ((test_access (tr.kind r)).1 (inl read)) location)
          (λ same. rw same (sum_read_conflict tr n l u r inside inside-r sum read location))

      with_read_conflict : (p q : ℕ) → with_read p ≡ true → with_read q ≡ true → p < q → q < n → Conflict tr n p q
      with_read_conflict p q tp tq less inside-q =
          either ((test_with_read p).0 tp)
          (λ a.
          either ((test_with_read q).0 tq) (λ b. since_conflict p q a b less inside-q) (λ same. rw same (since_read p a (omega arith))))
          (λ same.
          either ((test_with_read q).0 tq) (λ b. rw same (conflict_sym tr n (since_read q b inside-q))) (λ same'. absurd (omega arith)))

      latest_before : latest since (before r o) ≡ latest since (before r (positions n))
      latest_before =
          let implied : (p : ℕ) → since p ≡ true → with_read p ≡ true = λ p e. (test_with_read p).1 (inl e) in
          let itself : with_read r ≡ true = (test_with_read r).1 (inr refl) in
          sym (latest_before_select since with_read implied r itself o)
          ∙ ap (λ (z : List ℕ). latest since (before r z)) (cut_same with_read with_read_conflict)
          ∙ latest_before_select since with_read implied r itself (positions n)

  -- So the sums since are the same after two lists in which that latest is the same. Each list is a part of an order.
  same_sums :
      (l : ℕ) (x y : List ℕ) → ((p : ℕ) → occurrences p x ≤ occurrences p o) → ((p : ℕ) → occurrences p y ≤ occurrences p (positions n))
      → ((u : ℕ) (inside : u < n) (sum : sums tr l u ≡ true) → latest (since l u inside sum) x ≡ latest (since l u inside sum) y)
      → (u : ℕ) → SumSince tr x l u ↔ SumSince tr y l u
  same_sums l x y part-x part-y same u = (
    λ h. moved x y once_x once_y same h (order_inside n o order u (omega (arith, part-x u, h.listed))),
    λ h.
        moved y x once_y once_x (λ v i s. sym (same v i s)) h
        (order_inside n (positions n) (positions_order n) u (omega (arith, part-y u, h.listed))),
  )
    where
      once_x : (p : ℕ) → occurrences p x ≤ 1
      once_x p = omega (arith, part-x p, order_at_most_once n o order p)

      once_y : (p : ℕ) → occurrences p y ≤ 1
      once_y p = omega (arith, part-y p, order_at_most_once n (positions n) (positions_order n) p)

      moved :
          (x y : List ℕ) → ((p : ℕ) → occurrences p x ≤ 1) → ((p : ℕ) → occurrences p y ≤ 1)
          → ((u : ℕ) (inside : u < n) (sum : sums tr l u ≡ true) → latest (since l u inside sum) x ≡ latest (since l u inside sum) y)
          → SumSince tr x l u → u < n → SumSince tr y l u
      moved x y once_x once_y same h inside =
          let sum = h.sum in
          let test : ℕ → Bool = since l u inside sum in
          (since_latest tr y once_y l u sum test (test_since l u inside sum)).1
          (sym (same u inside sum) ∙ (since_latest tr x once_x l u sum test (test_since l u inside sum)).0 h)

-- DEMAND 3, clean: where no two accesses of the first n events race, every order of them that keeps all arcs of the task graph has each read see the
-- same as in the trace, and each location end with the same: last write, and sums after it.
pub same_throughout :
    (tr : Trace) (n : ℕ) → Forward tr n → ((p q : ℕ) → Race tr n p q → ⊥) → (o : List ℕ) → Order n o → KeepsArcs tr n n o → SameThroughout tr n o
same_throughout tr n forward race-free o order keeps =
    record {
      reads = λ r inside read.
          record {
            equal_last_write = same_write tr n forward race-free o order keeps r inside read;
            sums_since =
                same_sums tr n forward race-free o order keeps (tr.operand r) (before r o) (before r (positions n))
                (λ p. occurrences_before_le p r o) (λ p. occurrences_before_le p r (positions n))
                (λ u within sum. latest_before tr n forward race-free o order keeps (tr.operand r) u within sum r inside read refl);
          };
      ends = λ l.
          record {
            equal_last_write = same_last_write tr n forward race-free o order keeps l;
            sums_since =
                same_sums tr n forward race-free o order keeps l o (positions n) (λ p. omega arith) (λ p. omega arith)
                (λ u within sum. latest_end tr n forward race-free o order keeps l u within sum);
          };
    }
