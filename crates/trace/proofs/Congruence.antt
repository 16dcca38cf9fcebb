-- Two traces that agree below n, but for the operands of halts, have the same arcs, paths, conflicts and races there; two that agree on these operands
-- too have the same line. Assumes nothing.
use Prim.Native.Nat.{ℕ, zero, suc, ◌<◌, ◌≤◌}
use mathlib.Core.Path.{◌≡◌, refl, sym, ◌∙◌}
use mathlib.Core.Bool.{true}
use mathlib.Core.Logic.{◌≢◌, ◌↔◌}
use native.Mathlib.Omega.{arith}
use native.Mathlib.Nat.{lt_of_lt_of_le}
use Rattle.trace.specs.Trace.{Trace, HALT, is_access}
use Rattle.trace.specs.Line.{Line, Checked, passes, fails, step, step_after, line_after}
use Rattle.trace.specs.Graph.{Arc, to_next, to_child, to_join, Reach, here, more, graph_events}
use Rattle.trace.specs.Race.{Conflict, Race}
use Rattle.trace.proofs.Tests.{either, same_or_not}
use Rattle.trace.proofs.EventKinds.{access_not_halt}

-- The first n events of both have the same kinds and tasks and, where they are no halts, the same operands.
pub record SameButHalts (tr tr' : Trace) (n : ℕ) : Type 0 where
  pub kinds : (p : ℕ) → p < n → tr.kind p ≡ tr'.kind p
  pub tasks : (p : ℕ) → p < n → tr.task p ≡ tr'.task p
  pub operands : (p : ℕ) → p < n → tr.kind p ≢ HALT → tr.operand p ≡ tr'.operand p

pub same_sym : {tr tr' : Trace} {n : ℕ} → SameButHalts tr tr' n → SameButHalts tr' tr n
same_sym s =
    record {
      kinds = λ p h. sym (s.kinds p h);
      tasks = λ p h. sym (s.tasks p h);
      operands = λ p h k. sym (s.operands p h (λ e. k (sym (s.kinds p h) ∙ e)));
    }

-- So do the first m of them.
pub same_fewer : {tr tr' : Trace} {m n : ℕ} → m ≤ n → SameButHalts tr tr' n → SameButHalts tr tr' m
same_fewer fewer s =
    record {
      kinds = λ p h. s.kinds p (lt_of_lt_of_le h fewer);
      tasks = λ p h. s.tasks p (lt_of_lt_of_le h fewer);
      operands = λ p h. s.operands p (lt_of_lt_of_le h fewer);
    }

-- ---- one way, in the graph of n events

arc_to : {tr tr' : Trace} {n p q : ℕ} → SameButHalts tr tr' n → Arc tr n p q → Arc tr' n p q
arc_to {p = p} {q = q} s (to_next h i a b) =
    to_next h i (sym (s.tasks q i) ∙ (a ∙ s.tasks p (omega arith)))
    (λ r j k e. b r j k (s.tasks r (omega arith) ∙ (e ∙ sym (s.tasks p (omega arith)))))
arc_to {p = p} {q = q} s (to_child h i a b c) =
    let same = s.operands p h (λ e. omega arith) in
    to_child h i (sym (s.kinds p h) ∙ a) (sym (s.tasks q i) ∙ (b ∙ same)) (λ r k e. c r k (s.tasks r (omega arith) ∙ (e ∙ sym same)))
arc_to {p = p} {q = q} s (to_join h i a b c) =
    let same = s.operands q i (λ e. omega arith) in
    to_join h i (sym (s.kinds p h) ∙ a) (sym (s.kinds q i) ∙ b) (sym same ∙ (c ∙ s.tasks p h))

reach_to : {tr tr' : Trace} {n p q : ℕ} → SameButHalts tr tr' n → Reach tr n p q → Reach tr' n p q
reach_to s (here inside same) = here inside same
reach_to s (more path arc) = more (reach_to s path) (arc_to s arc)

conflict_to : {tr tr' : Trace} {n p q : ℕ} → SameButHalts tr tr' n → Conflict tr n p q → Conflict tr' n p q
conflict_to {tr} {tr'} {n} {p} {q} s c =
    let h = c.first_event in
    let i = c.second_event in
    let same : (r : ℕ) → r < n → is_access (tr.kind r) ≡ true → tr.operand r ≡ tr'.operand r =
    λ r j a. s.operands r j (access_not_halt (tr.kind r) a) in
    record {
      first_event = h;
      second_event = i;
      first_access = rw (← s.kinds p h) c.first_access;
      second_access = rw (← s.kinds q i) c.second_access;
      one_location = sym (same p h c.first_access) ∙ (c.one_location ∙ same q i c.second_access);
      conflicting_kinds = rw (← s.kinds p h, ← s.kinds q i) c.conflicting_kinds;
    }

race_to : {tr tr' : Trace} {n p q : ℕ} → SameButHalts tr tr' n → Race tr n p q → Race tr' n p q
race_to s r =
    record {
      conflict = conflict_to s r.conflict;
      not_forth = λ path. r.not_forth (reach_to (same_sym s) path);
      not_back = λ path. r.not_back (reach_to (same_sym s) path);
    }

-- ---- both ways, in the graph of m ≤ n events

module _ {tr tr' : Trace} {m n : ℕ} (fewer : m ≤ n) (same : SameButHalts tr tr' n) where
  pub arc_same : (p q : ℕ) → Arc tr m p q ↔ Arc tr' m p q
  arc_same p q = let s = same_fewer fewer same in (arc_to s, arc_to (same_sym s))

  pub reach_same : (p q : ℕ) → Reach tr m p q ↔ Reach tr' m p q
  reach_same p q = let s = same_fewer fewer same in (reach_to s, reach_to (same_sym s))

  pub conflict_same : (p q : ℕ) → Conflict tr m p q ↔ Conflict tr' m p q
  conflict_same p q = let s = same_fewer fewer same in (conflict_to s, conflict_to (same_sym s))

  pub race_same : (p q : ℕ) → Race tr m p q ↔ Race tr' m p q
  race_same p q = let s = same_fewer fewer same in (race_to s, race_to (same_sym s))

-- ---- the line, where the operands of halts agree too

step_same : (haltRule : Line → ℕ) (tr tr' : Trace) (p : ℕ) (line : Line) → tr.kind p ≡ tr'.kind p → tr.task p ≡ tr'.task p →
    tr.operand p ≡ tr'.operand p → step haltRule tr p line ≡ step haltRule tr' p line
unfolding step
step_same haltRule tr tr' p line k t o = rw (k, t, o)

step_after_same : (haltRule : Line → ℕ) (tr tr' : Trace) (p : ℕ) (before : Checked Line) → tr.kind p ≡ tr'.kind p → tr.task p ≡ tr'.task p →
    tr.operand p ≡ tr'.operand p → step_after haltRule tr p before ≡ step_after haltRule tr' p before
unfolding step_after
step_after_same haltRule tr tr' p (passes line) k t o = step_same haltRule tr tr' p line k t o
step_after_same haltRule tr tr' p (fails number) k t o = refl

module _ (haltRule : Line → ℕ) {tr tr' : Trace} {n : ℕ}
    (same : SameButHalts tr tr' n) (halts : (p : ℕ) → p < n → tr.kind p ≡ HALT → tr.operand p ≡ tr'.operand p) where
  pub line_same : (m : ℕ) → m ≤ n → line_after haltRule tr m ≡ line_after haltRule tr' m
  unfolding line_after
  line_same zero h = refl
  line_same (suc m) h =
      let operand = either (same_or_not (tr.kind m) HALT) (halts m h) (same.operands m h) in
      rw (line_same m (omega arith)) (step_after_same haltRule tr tr' m (line_after haltRule tr' m) (same.kinds m h) (same.tasks m h) operand)

  pub graph_same : (m : ℕ) → m ≤ n → graph_events haltRule tr m ≡ graph_events haltRule tr' m
  unfolding graph_events
  graph_same zero h = refl
  graph_same (suc m) h = rw (line_same (suc m) h, graph_same m (omega arith))
