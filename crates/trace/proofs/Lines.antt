-- The line after n events: what one event's rows do to it, how many events the graph has, and the first event that breaks a rule. Assumes nothing.
use Prim.Native.Nat.{ℕ, zero, suc, ◌<◌, ◌≤◌}
use mathlib.Core.Path.{◌≡◌, refl, sym, ap, ◌∙◌}
use mathlib.Core.Bool.{Bool, true, false, cond, not}
use native.Mathlib.Omega.{arith}
use lib.Dec.{eqb}
use borrow.Author.Tests.{eqb-true, not-false, leb-false}
use Rattle.trace.specs.Trace.{Trace, FORK, JOIN, HALT, is_kind, is_access, LOCATIONS}
use Rattle.trace.specs.Line.{Line, Checked, passes, fails, row, start, halted, step_by_kind, step, step_after, line_after}
use Rattle.trace.specs.Graph.{is_passed, graph_events}
use Rattle.trace.specs.Demands.{KeepsRules, BreaksFirst}
use Rattle.trace.proofs.Tests.{either, last_or_below}

-- A check passes or fails, with the equation.
pub by_check : {A C : Type 0} (c : Checked A) → ((a : A) → c ≡ passes a → C) → ((number : ℕ) → c ≡ fails number → C) → C
by_check (passes a) f g = f a refl
by_check (fails number) f g = g number refl

pub passes_not_fails : {A : Type 0} {a : A} {number : ℕ} {c : Checked A} → c ≡ passes a → c ≡ fails number → ⊥
passes_not_fails e f = let z : ◌≡◌ {A = ℕ} 0 1 = cc in omega arith

-- Where all rows pass, no condition of a row holds.
pub row_passes : {A : Type 0} (number : ℕ) (condition : Bool) (next : Checked A) (a : A) → row number condition next ≡ passes a
    → (condition ≡ false) × (next ≡ passes a)
unfolding row
row_passes number true next a e = absurd (passes_not_fails e refl)
row_passes number false next a e = (refl, e)

-- ---- which rows a check can meet

-- A check passes, or fails by a row from `low` to `high`.
abbrev pub RowBetween : {A : Type 0} → ℕ → ℕ → Checked A → Type 0
RowBetween low high (passes a) = Unit {0}
RowBetween low high (fails number) = (low ≤ number) × (number ≤ high)

module _ {A : Type 0} (low high : ℕ) where
  pub row_between : (number : ℕ) (condition : Bool) (next : Checked A) → low ≤ number → number ≤ high → RowBetween low high next
      → RowBetween low high (row number condition next)
  unfolding row
  row_between number true next l u r = (l, u)
  row_between number false next l u r = r

  cond_between : (b : Bool) (c d : Checked A) → RowBetween low high c → RowBetween low high d → RowBetween low high (cond b c d)
  cond_between true c d r s = r
  cond_between false c d r s = s

  pub fails_between : (number : ℕ) (c : Checked A) → RowBetween low high c → c ≡ fails number → (low ≤ number) × (number ≤ high)
  fails_between number (passes a) r e = absurd (passes_not_fails refl e)
  fails_between number (fails m) r e = let same : m ≡ number = cc in rw same at r

module _ (haltRule : Line → ℕ) (tr : Trace) where
  step_between : (p : ℕ) (line : Line) → RowBetween 5 12 (step haltRule tr p line)
  unfolding step step_by_kind
  step_between p line =
      row_between 5 12 5 _ _ (omega arith) (omega arith)
      (row_between 5 12 6 _ _ (omega arith) (omega arith)
      (row_between 5 12 7 _ _ (omega arith) (omega arith)
      (cond_between 5 12 (is_access (tr.kind p)) _ _ (row_between 5 12 8 _ _ (omega arith) (omega arith) tt)
      (cond_between 5 12 (eqb (tr.kind p) FORK) _ _
      (row_between 5 12 9 _ _ (omega arith) (omega arith) (row_between 5 12 10 _ _ (omega arith) (omega arith) tt))
      (cond_between 5 12 (eqb (tr.kind p) JOIN) _ _ (row_between 5 12 11 _ _ (omega arith) (omega arith) tt)
      (row_between 5 12 12 _ _ (omega arith) (omega arith) tt))))))

  -- An event that breaks a rule meets one of the rows 5 to 12.
  pub step_row : (p number : ℕ) (line : Line) → step haltRule tr p line ≡ fails number → (5 ≤ number) × (number ≤ 12)
  step_row p number line e = fails_between 5 12 number (step haltRule tr p line) (step_between p line) e

  -- ---- one event more

  pub line_more : (n : ℕ) (line : Line) → line_after haltRule tr n ≡ passes line → line_after haltRule tr (suc n) ≡ step haltRule tr n line
  unfolding line_after step_after
  line_more n line e = rw (e, step_after)

  -- A rule once broken stays broken.
  pub fails_later : (m n number : ℕ) → m ≤ n → line_after haltRule tr m ≡ fails number → line_after haltRule tr n ≡ fails number
  unfolding line_after step_after
  fails_later m zero number h e = let same : 0 ≡ m = omega arith in ap (line_after haltRule tr) same ∙ e
  fails_later m (suc n) number h e =
      either (last_or_below m (suc n) (omega arith)) (λ same. ap (line_after haltRule tr) (sym same) ∙ e)
      (λ l. rw (fails_later m n number (omega arith) e, step_after))

  -- Where n events keep the rules, so do the first m of them.
  pub passes_earlier : (m n : ℕ) (line : Line) → m ≤ n → line_after haltRule tr n ≡ passes line
      → (before : Line) × (line_after haltRule tr m ≡ passes before)
  passes_earlier m n line h e =
      by_check (line_after haltRule tr m) (λ before q. (before, q)) (λ number q. absurd (passes_not_fails e (fails_later m n number h q)))

  -- ---- the events of the graph

  -- All events, where all keep the rules.
  pub graph_all : (n : ℕ) (line : Line) → line_after haltRule tr n ≡ passes line → graph_events haltRule tr n ≡ n
  unfolding graph_events is_passed
  graph_all zero line e = refl
  graph_all (suc n) line e = rw (e, is_passed)

  -- Never more than there are.
  pub graph_le : (n : ℕ) → graph_events haltRule tr n ≤ n
  unfolding graph_events is_passed
  graph_le zero = omega arith
  graph_le (suc n) =
      by_check (line_after haltRule tr (suc n))
      (λ line e. rw (e, is_passed) (omega arith))
      (λ number e. rw (e, is_passed) (let few = graph_le n in omega arith))

  -- The graph's events keep the rules.
  pub graph_kept : (n : ℕ) → (line : Line) × (line_after haltRule tr (graph_events haltRule tr n) ≡ passes line)
  unfolding graph_events line_after is_passed
  graph_kept zero = (start, refl)
  graph_kept (suc n) =
      by_check (line_after haltRule tr (suc n)) (λ line e. rw (e, is_passed) (line, e)) (λ number e. rw (e, is_passed) (graph_kept n))

  -- Where the first m events keep the rules, the graph has these at least.
  pub graph_ge : (m n : ℕ) (line : Line) → m ≤ n → line_after haltRule tr m ≡ passes line → m ≤ graph_events haltRule tr n
  unfolding graph_events is_passed
  graph_ge m zero line h e = h
  graph_ge m (suc n) line h e =
      by_check (line_after haltRule tr (suc n)) (λ after q. rw (q, is_passed) h)
      (λ number q.
      rw (q, is_passed)
      (either (last_or_below m (suc n) (omega arith))
      (λ same. absurd (passes_not_fails e (ap (line_after haltRule tr) same ∙ q)))
      (λ i. graph_ge m n line (omega arith) e)))

  -- The events before the first that breaks a rule.
  pub graph_broken :
      (p n number : ℕ) (line : Line) → p < n → line_after haltRule tr p ≡ passes line → line_after haltRule tr (suc p) ≡ fails number
      → graph_events haltRule tr n ≡ p
  unfolding graph_events is_passed
  graph_broken p zero number line h e f = absurd (omega arith)
  graph_broken p (suc n) number line h e f =
      rw (fails_later (suc p) (suc n) number h f, is_passed)
      (either (last_or_below p n h) (λ q. rw (← q) (graph_all p line e)) (λ l. graph_broken p n number line l e f))

  -- ---- the locations

  -- An access that keeps the rules is to a location below 1,024.
  pub located : (n : ℕ) (line : Line) → line_after haltRule tr n ≡ passes line
      → (p : ℕ) → p < n → is_access (tr.kind p) ≡ true → tr.operand p < LOCATIONS
  unfolding step step_by_kind
  located n line e p h access =
      let before = passes_earlier p n line (omega arith) e in
      let after = passes_earlier (suc p) n line (omega arith) e in
      let five = row_passes 5 _ _ _ (sym (line_more p before.0 before.1) ∙ after.1) in
      let seven = row_passes 7 _ _ _ (row_passes 6 _ _ _ five.1).1 in
      leb-false LOCATIONS (tr.operand p) (row_passes 8 _ _ _ (rw access at seven.1)).0

  -- A halt that keeps the rules has the operand that its rule asks for.
  pub halt_meets : (p : ℕ) (line next : Line) → line_after haltRule tr p ≡ passes line → line_after haltRule tr (suc p) ≡ passes next → tr.kind p ≡ HALT
      → tr.operand p ≡ haltRule line
  unfolding step step_by_kind is_access
  halt_meets p line next before after halts =
      let five = row_passes 5 _ _ _ (sym (line_more p line before) ∙ after) in
      let seven = row_passes 7 _ _ _ (row_passes 6 _ _ _ five.1).1 in
      let last = row_passes 12 (not (eqb (tr.operand p) (haltRule line))) (passes (halted line)) next (rw halts at seven.1) in
      eqb-true (tr.operand p) (haltRule line) (not-false _ last.0)

  -- An event that keeps the rules is of a kind that the documents name.
  pub named : (n : ℕ) (line : Line) → line_after haltRule tr n ≡ passes line → (p : ℕ) → p < n → is_kind (tr.kind p) ≡ true
  unfolding step
  named n line e p h =
      let before = passes_earlier p n line (omega arith) e in
      let after = passes_earlier (suc p) n line (omega arith) e in
      not-false _ (row_passes 5 _ _ _ (sym (line_more p before.0 before.1) ∙ after.1)).0

-- ---- the first event that breaks a rule

module _ (haltRule : Line → ℕ) (tr : Trace) where
  -- Events that keep the rules have no first one that breaks one.
  pub kept_not_broken : (m p number : ℕ) → p < m → KeepsRules haltRule tr m → BreaksFirst haltRule tr p number → ⊥
  kept_not_broken m p number h k b =
      passes_not_fails k.reached
      (fails_later haltRule tr (suc p) m number h (line_more haltRule tr p b.line b.kept_before ∙ b.broken))

  -- There is one such event at most,
  pub broken_once : (p p' number number' : ℕ) → BreaksFirst haltRule tr p number → BreaksFirst haltRule tr p' number' → p ≡ p'
  broken_once p p' number number' b b' =
      let below : p < p' → ⊥ = λ h. kept_not_broken p' p number h (record { line = b'.line; reached = b'.kept_before }) b in
      let above : p' < p → ⊥ = λ h. kept_not_broken p p' number' h (record { line = b.line; reached = b.kept_before }) b' in
      omega arith

  -- and it meets one row.
  pub one_row : (p number number' : ℕ) → BreaksFirst haltRule tr p number → BreaksFirst haltRule tr p number' → number ≡ number'
  one_row p number number' b b' =
      let l : b.line ≡ b'.line = cc (b.kept_before, b'.kept_before) in
      let e : step haltRule tr p b'.line ≡ fails number = rw l at b.broken in
      cc (e, b'.broken)

  -- Where a rule is broken, the graph's number of events is the position of the first event that breaks one.
  pub broken_at_graph : (n number : ℕ) → line_after haltRule tr n ≡ fails number
      → (graph_events haltRule tr n < n) × BreaksFirst haltRule tr (graph_events haltRule tr n) number
  unfolding graph_events line_after is_passed
  broken_at_graph zero number e = absurd (passes_not_fails refl e)
  broken_at_graph (suc n) number e =
      by_check (line_after haltRule tr n)
      (λ line q.
      rw (e, is_passed, graph_all haltRule tr n line q)
      (omega arith, record { line = line; kept_before = q; broken = sym (line_more haltRule tr n line q) ∙ e }))
      (λ m q.
      let same : fails m ≡ fails number = sym (fails_later haltRule tr n (suc n) m (omega arith) q) ∙ e in
      let before = broken_at_graph n number (q ∙ same) in
      let h = before.0 in
      rw (e, is_passed) (omega arith, before.1))
