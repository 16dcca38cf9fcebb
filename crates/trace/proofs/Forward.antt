-- Where the line rules are kept, every arc of the task graph leads to a later event: a task runs only after its fork, and is joined only after its halt.
-- So the graph of every trace is forward, and the graph of fewer of its events is a part of the graph of more. Assumes nothing.
use Prim.Native.Nat.{ℕ, suc, ◌<◌, ◌≤◌}
use mathlib.Core.Path.{◌≡◌, sym, ap, ◌∙◌}
use mathlib.Core.List.{List, ◌∷◌}
use mathlib.Core.Logic.{inl, inr, ◌≢◌, ◌↔◌}
use native.Mathlib.Omega.{arith}
use native.Mathlib.Nat.{lt_of_lt_of_le}
use Rattle.trace.specs.Trace.{Trace, FORK, JOIN, HALT}
use Rattle.trace.specs.Line.{Line, passes, line_after}
use Rattle.trace.specs.Graph.{Arc, to_next, to_child, to_join, Reach, here, more, graph_events}
use Rattle.trace.specs.Race.{Conflict, Race}
use Rattle.trace.proofs.Tests.{either, last_or_below}
use Rattle.trace.proofs.Paths.{Forward, arc_inside, reach_inside}
use Rattle.trace.proofs.Lines.{graph_kept}
use Rattle.trace.proofs.EventKinds.{access_not_fork, access_not_join}
use Rattle.trace.proofs.Stacks.{In, in_eq}
use Rattle.trace.proofs.Run.{InLine, halted_in_line, joined_gone, Run, start, access, fork, join, halt, used_numbers, distinct_stacks}
use Rattle.trace.proofs.TwoStacks.{run_of}

-- Among the first n events: a joined task is out of the line for good, forks come before the child's events and halts before the joins.
record InOrder (tr : Trace) (n : ℕ) (left active used : List ℕ) : Type 0 where
  joined_out : (q : ℕ) → q < n → tr.kind q ≡ JOIN → InLine left active (tr.operand q) → ⊥
  joined_used : (q : ℕ) → q < n → tr.kind q ≡ JOIN → In (tr.operand q) used
  fork_first : (p q : ℕ) → p < n → q < n → tr.kind p ≡ FORK → tr.task q ≡ tr.operand p → p < q
  join_last : (p q : ℕ) → p < n → q < n → tr.kind p ≡ HALT → tr.kind q ≡ JOIN → tr.operand q ≡ tr.task p → p < q

-- Two of the first n + 1 events: each is event n or older.
two_events : {C : Type 0} (n p q : ℕ) → p < suc n → q < suc n → (p < n → q < n → C) → (p < n → q ≡ n → C) → (p ≡ n → q < n → C) →
    (p ≡ n → q ≡ n → C) → C
two_events n p q h i older second first both =
    either (last_or_below p n h)
    (λ e. either (last_or_below q n i) (both e) (first e))
    (λ j. either (last_or_below q n i) (second j) (older j))

module _ (haltRule : Line → ℕ) (tr : Trace) where
  module _ {n : ℕ} {left paused used : List ℕ} {last : ℕ → ℕ}
      (run : Run haltRule tr n left (tr.task n ∷ paused) used last) (before : InOrder tr n left (tr.task n ∷ paused) used) where
    fork_first_next : (tr.kind n ≡ FORK → In (tr.operand n) used → ⊥) → (p q : ℕ) → p < suc n → q < suc n → tr.kind p ≡ FORK →
        tr.task q ≡ tr.operand p → p < q
    fork_first_next new p q h i k e =
        let u = used_numbers haltRule tr run in
        let fresh : p ≡ n → In (tr.task q) used → ⊥ = λ a j. new (ap tr.kind (sym a) ∙ k) (in_eq used (ap tr.operand (sym a) ∙ sym e) j) in
        two_events n p q h i
        (λ a b. before.fork_first p q a b k e)
        (λ a b. omega arith)
        (λ a b. absurd (fresh a (u.of_task q b)))
        (λ a b. absurd (fresh a (u.of_active (tr.task q) (inl (ap tr.task b)))))

    join_last_next : (p q : ℕ) → p < suc n → q < suc n → tr.kind p ≡ HALT → tr.kind q ≡ JOIN → tr.operand q ≡ tr.task p → p < q
    join_last_next p q h i k j e =
        two_events n p q h i
        (λ a b. before.join_last p q a b k j e)
        (λ a b. omega arith)
        (λ a b. absurd (before.joined_out q b j (inl (inl (e ∙ ap tr.task a)))))
        (λ a b. let same = sym k ∙ (ap tr.kind (a ∙ sym b) ∙ j) in absurd (omega arith))

    -- An event that is no join and brings no joined task back.
    order_next : (left' active used' : List ℕ) → tr.kind n ≢ JOIN → (tr.kind n ≡ FORK → In (tr.operand n) used → ⊥) →
        ((y : ℕ) → In y used → InLine left' active y → InLine left (tr.task n ∷ paused) y) → ((y : ℕ) → In y used → In y used') →
        InOrder tr (suc n) left' active used'
    order_next left' active used' k new back wider =
        record {
          joined_out = λ q h j i. either (last_or_below q n h)
              (λ e. k (ap tr.kind (sym e) ∙ j))
              (λ h'. before.joined_out q h' j (back (tr.operand q) (before.joined_used q h' j) i));
          joined_used = λ q h j. either (last_or_below q n h)
              (λ e. absurd (k (ap tr.kind (sym e) ∙ j)))
              (λ h'. wider (tr.operand q) (before.joined_used q h' j));
          fork_first = fork_first_next new;
          join_last = join_last_next;
        }

  in_order : {n : ℕ} {left active used : List ℕ} {last : ℕ → ℕ} → Run haltRule tr n left active used last → InOrder tr n left active used
  in_order start =
      record {
        joined_out = λ q h. absurd (omega arith);
        joined_used = λ q h. absurd (omega arith);
        fork_first = λ p q h. absurd (omega arith);
        join_last = λ p q h. absurd (omega arith);
      }
  in_order (access {n = n} {left = left} {paused = paused} {used = used} run k o) =
      order_next run (in_order run) left (tr.task n ∷ paused) used (access_not_join (tr.kind n) k)
      (λ f. absurd (access_not_fork (tr.kind n) k f)) (λ y i j. j) (λ y i. i)
  in_order (fork {n = n} {left = left} {paused = paused} {used = used} run k o new) =
      order_next run (in_order run) left (tr.operand n ∷ (tr.task n ∷ paused)) (tr.operand n ∷ used) (λ j. omega arith) (λ f. new)
      (λ y i j. either j (λ l. either l (λ e. absurd (new (in_eq used (sym e) i))) (λ m. inl m)) (λ l. inr l)) (λ y i. inr i)
  in_order (join {n = n} {left = left} {paused = paused} run k) =
      let before = in_order run in
      record {
        joined_out = λ q h j i. either (last_or_below q n h)
            (λ e. joined_gone (tr.operand n) left (tr.task n ∷ paused) (distinct_stacks haltRule tr run) (tr.operand q) i (ap tr.operand e))
            (λ h'. before.joined_out q h' j (either i (λ l. inl l) (λ l. inr (inr l))));
        joined_used = λ q h j. either (last_or_below q n h)
            (λ e. (used_numbers haltRule tr run).of_left (tr.operand q) (inl (ap tr.operand e)))
            (λ h'. before.joined_used q h' j);
        fork_first = fork_first_next run before (λ f. absurd (omega arith));
        join_last = join_last_next run before;
      }
  in_order (halt {n = n} {left = left} {paused = paused} {used = used} run k o) =
      order_next run (in_order run) (tr.task n ∷ left) paused used (λ j. omega arith) (λ f. absurd (omega arith))
      (λ y i. halted_in_line (tr.task n) left paused y) (λ y i. i)

  -- The arcs among the events of a run lead forward.
  pub run_forward : {n : ℕ} {left active used : List ℕ} {last : ℕ → ℕ} → Run haltRule tr n left active used last → Forward tr n
  run_forward run p q (to_next h i a b) = h
  run_forward run p q (to_child h i a b c) = (in_order run).fork_first p q h i a b
  run_forward run p q (to_join h i a b c) = (in_order run).join_last p q h i a b c

  -- Where the first n events keep the rules, the arcs among them lead forward.
  pub forward : (n : ℕ) (line : Line) → line_after haltRule tr n ≡ passes line → Forward tr n
  forward n line e = run_forward (run_of haltRule tr n line e).run

  -- The arcs of the graph of every trace lead forward.
  pub graph_forward : (n : ℕ) → Forward tr (graph_events haltRule tr n)
  graph_forward n = let kept = graph_kept haltRule tr n in forward (graph_events haltRule tr n) kept.0 kept.1

-- ---- the graph of fewer events

module _ {tr : Trace} {m n : ℕ} (fewer : m ≤ n) where
  arc_more : {p q : ℕ} → Arc tr m p q → Arc tr n p q
  arc_more (to_next h i a b) = to_next h (lt_of_lt_of_le i fewer) a b
  arc_more (to_child h i a b c) = to_child (lt_of_lt_of_le h fewer) (lt_of_lt_of_le i fewer) a b c
  arc_more (to_join h i a b c) = to_join (lt_of_lt_of_le h fewer) (lt_of_lt_of_le i fewer) a b c

  arc_fewer : {p q : ℕ} → Arc tr n p q → p < m → q < m → Arc tr m p q
  arc_fewer (to_next h i a b) j k = to_next h k a b
  arc_fewer (to_child h i a b c) j k = to_child j k a b c
  arc_fewer (to_join h i a b c) j k = to_join j k a b c

  -- The arcs among the first m events are those of the first n events that start and end there.
  pub arc_prefix : (p q : ℕ) → Arc tr m p q ↔ (Arc tr n p q × (p < m) × (q < m))
  arc_prefix p q = (λ arc. (arc_more arc, (arc_inside arc).0, (arc_inside arc).1), λ w. arc_fewer w.0 w.1 w.2)

  reach_more : {p q : ℕ} → Reach tr m p q → Reach tr n p q
  reach_more (here inside same) = here (lt_of_lt_of_le inside fewer) same
  reach_more (more path arc) = more (reach_more path) (arc_more arc)

  reach_fewer : {p q : ℕ} → Forward tr n → Reach tr n p q → q < m → Reach tr m p q
  reach_fewer forward (here inside same) h = here h same
  reach_fewer forward (more {m = k} {q = q} path arc) h =
      let i = forward k q arc in
      let j : k < m = omega arith in
      more (reach_fewer forward path j) (arc_fewer arc j h)

  -- The paths among the first m events are those of the first n events that end there.
  pub reach_prefix : Forward tr n → (p q : ℕ) → Reach tr m p q ↔ (Reach tr n p q × (q < m))
  reach_prefix forward p q = (λ path. (reach_more path, (reach_inside path).1), λ w. reach_fewer forward w.0 w.1)

  conflict_more : {p q : ℕ} → Conflict tr m p q → Conflict tr n p q
  conflict_more c =
      record {
        first_event = lt_of_lt_of_le c.first_event fewer;
        second_event = lt_of_lt_of_le c.second_event fewer;
        first_access = c.first_access;
        second_access = c.second_access;
        one_location = c.one_location;
        conflicting_kinds = c.conflicting_kinds;
      }

  conflict_fewer : {p q : ℕ} → Conflict tr n p q → p < m → q < m → Conflict tr m p q
  conflict_fewer c h i =
      record {
        first_event = h;
        second_event = i;
        first_access = c.first_access;
        second_access = c.second_access;
        one_location = c.one_location;
        conflicting_kinds = c.conflicting_kinds;
      }

  -- The races among the first m events are those of the first n events whose both accesses are there.
  pub race_prefix : Forward tr n → (p q : ℕ) → Race tr m p q ↔ (Race tr n p q × (p < m) × (q < m))
  race_prefix forward p q = (
    λ r.
        let h = r.conflict.first_event in
        let i = r.conflict.second_event in (
          record {
            conflict = conflict_more r.conflict;
            not_forth = λ path. r.not_forth (reach_fewer forward path i);
            not_back = λ path. r.not_back (reach_fewer forward path h);
          },
          h,
          i,
        ),
    λ w.
        record {
          conflict = conflict_fewer w.0.conflict w.1 w.2;
          not_forth = λ path. w.0.not_forth (reach_more path);
          not_back = λ path. w.0.not_back (reach_more path);
        },
  )
