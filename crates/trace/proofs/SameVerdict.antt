-- HALTS SAY WHO RUNS ON (document 02, K6): "What the judge calls clean or a race with the old row 12 and all other rules alike, later ones too, it calls the
-- same, with the same positions, after this conversion." For any two rules for a halt's operand: the second trace is the first but for the operands of halts,
-- and each of these, as long as the first trace keeps its rules, is the one that the second rule asks for (`HaltsMeet`). Assumes nothing.
use Prim.Native.Nat.{ℕ, zero, suc, ◌<◌, ◌≤◌}
use mathlib.Core.Path.{◌≡◌, refl, sym, ◌∙◌}
use mathlib.Core.Bool.{true, false, not}
use mathlib.Core.Logic.{◌≢◌}
use native.Mathlib.Omega.{arith}
use lib.Dec.{eqb}
use borrow.Author.Tests.{eq-eqb, eqb-true, not-false}
use Rattle.trace.specs.Trace.{Trace, FORK, JOIN, HALT, is_kind, is_access}
use Rattle.trace.specs.Line.{Line, passes, row, is_empty, is_head, halted, step_by_kind, step, line_after}
use Rattle.trace.specs.Outcome.{says, Verdict, clean, race, judgement}
use Rattle.trace.proofs.Tests.{by_test}
use Rattle.trace.proofs.Lines.{row_passes, line_more, passes_earlier}
use Rattle.trace.proofs.EventKinds.{access_not_halt, rest_is_halt}
use Rattle.trace.proofs.Congruence.{SameButHalts}
use Rattle.trace.proofs.Demand2.{demand_2}
use Rattle.trace.proofs.Alike.{race_carries, clean_carries}

-- One event that keeps the rules: of two traces with one kind and task there, and one operand but for a halt, whose operand is the one asked for.
module _ (rule rule' : Line → ℕ) (kind x a a' : ℕ) (line next : Line) (same : kind ≢ HALT → a ≡ a') (meets : kind ≡ HALT → a' ≡ rule' line) where
  kind_carries : is_kind kind ≡ true → step_by_kind rule kind x a line ≡ passes next → step_by_kind rule' kind x a' line ≡ passes next
  unfolding step_by_kind row
  kind_carries named e =
      by_test (is_access kind) (λ k. rw (k, ← same (access_not_halt kind k)) (rw k at e))
      (λ k.
      by_test (eqb kind FORK) (λ f. rw (k, f, ← same (λ h. fork_not_halt f h)) (rw (k, f) at e))
      (λ f.
      by_test (eqb kind JOIN) (λ j. rw (k, f, j, ← same (λ h. join_not_halt j h)) (rw (k, f, j) at e))
      (λ j.
      let passed = row_passes 12 (not (eqb a (rule line))) (passes (halted line)) next (rw (k, f, j) at e) in
      rw (k, f, j, meets (rest_is_halt kind named k f j), eq-eqb (rule' line) (rule' line) refl) passed.1)))
    where
      fork_not_halt : eqb kind FORK ≡ true → kind ≡ HALT → ⊥
      fork_not_halt f h = let k = eqb-true kind FORK f in omega arith

      join_not_halt : eqb kind JOIN ≡ true → kind ≡ HALT → ⊥
      join_not_halt j h = let k = eqb-true kind JOIN j in omega arith

module _ (rule rule' : Line → ℕ) (tr tr' : Trace) where
  -- Where one of the first n events is a halt and the first trace keeps the rules up to it, that halt included, the second trace has there what the second rule
  -- asks for.
  abbrev pub HaltsMeet : ℕ → Type 0
  HaltsMeet n =
      (p : ℕ) → p < n → tr.kind p ≡ HALT → (line next : Line) → line_after rule tr p ≡ passes line → line_after rule tr (suc p) ≡ passes next
      → tr'.operand p ≡ rule' line

  module _ {n : ℕ} (same : SameButHalts tr tr' n) (meets : HaltsMeet n) where
    step_carries : (p : ℕ) → p < n → (line next : Line) → line_after rule tr p ≡ passes line → line_after rule tr (suc p) ≡ passes next
        → step rule' tr' p line ≡ passes next
    unfolding step row
    step_carries p h line next before after =
        let five = row_passes 5 _ _ next (sym (line_more rule tr p line before) ∙ after) in
        let six = row_passes 6 _ _ next five.1 in
        let seven = row_passes 7 _ _ next six.1 in
        let named : not (is_kind (tr.kind p)) ≡ false = five.0 in
        let runs : is_empty line.active ≡ false = six.0 in
        let acts : not (is_head (tr.task p) line.active) ≡ false = seven.0 in
        let last = kind_carries rule rule' (tr.kind p) (tr.task p) (tr.operand p) (tr'.operand p) line next (same.operands p h)
        (λ k. meets p h k line next before after) (not-false _ named) seven.1 in
        rw (← same.kinds p h, ← same.tasks p h, named, runs, acts) last

    -- The line of the first trace is the line of the second.
    pub line_carries : (m : ℕ) → m ≤ n → (line : Line) → line_after rule tr m ≡ passes line → line_after rule' tr' m ≡ passes line
    unfolding line_after
    line_carries zero h line e = e
    line_carries (suc m) h line e =
        let before = passes_earlier rule tr m (suc m) line (omega arith) e in
        let here = line_carries m (omega arith) before.0 before.1 in
        line_more rule' tr' m before.0 here
        ∙ step_carries m h before.0 line before.1 e

    -- THE VERDICT CARRIES OVER.
    pub same_verdict : (v : Verdict) → judgement rule tr n ≡ says v → judgement rule' tr' n ≡ says v
    same_verdict clean e =
        (demand_2 rule' tr' n).clean_iff.1 (clean_carries rule rule' tr tr' n n same line_carries refl refl ((demand_2 rule tr n).clean_iff.0 e))
    same_verdict (race s t) e =
        let r = ((demand_2 rule tr n).race_iff s t).0 e in
        ((demand_2 rule' tr' n).race_iff s t).1 (race_carries rule rule' tr tr' n n same line_carries s t r.inside r.inside r)
