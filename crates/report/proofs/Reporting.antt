-- WHAT `report` FINDS AND WRITES, in the documents' terms. Where the numbers tell the paths of a trace with these kinds and operands, and t is the first access
-- that races with an earlier one, s is the earliest it races with, and the two orders are those of document 01. Assumes nothing.
use Prim.Native.Nat.{ℕ, suc, ◌<◌, ◌≤◌}
use mathlib.Core.Path.{◌≡◌, subst, ap, ◌∙◌}
use mathlib.Core.List.{List, ◌++◌}
use native.Mathlib.Omega.{arith}
use lib.ListN.{get_or, drop}
use borrow.Author.Tests.{leb-true, le-leb}
use Rattle.trace.specs.Trace.{Trace, trace_of, is_access}
use Rattle.trace.specs.Graph.{graph_events}
use Rattle.trace.specs.Line.{halt_operand}
use Rattle.trace.specs.Race.{conflicting, Conflict, Race, InD}
use Rattle.trace.specs.Outcome.{in_d?, schedule}
use Rattle.trace.specs.Demands.{NoRaceBefore}
use Rattle.trace.proofs.Tests.{Tests, tests_map, tests_fails, tests_unique, test_lt, test_eq, test_self, test_and, test_or, test_not}
use Rattle.trace.proofs.Lines.{passes_earlier, graph_le, graph_kept}
use Rattle.trace.proofs.Numbers.{Numbers, race_by_number, in_d_by_number}
use Rattle.trace.proofs.Demand3.{test_in_D}
use Rattle.cells.specs.Cells.{number_in}
use Rattle.report.specs.Reports.{reach_in, kinds_conflict, partner_in, Partnered, FirstPartner, in_d_in, order_in, ReportedIn, Reported}
use Rattle.report.proofs.ReportingStores.{schedule_same}

-- The test of the numbers.
test_reach_in : (c : List ℕ) (e p : ℕ) → Tests (reach_in c e p) (number_in c p ≤ number_in c e)
test_reach_in c e p = (leb-true (number_in c p) (number_in c e), le-leb (number_in c p) (number_in c e))

module _ (kinds tasks operands c : List ℕ) (m t : ℕ) where
  abbrev tr : Trace
  tr = trace_of kinds tasks operands

  module _ (numbers : Numbers tr m (number_in c)) (inside : t < m) (raced : (p : ℕ) × (p < t) × Race tr m p t) where
    -- The code's test is the race with t.
    test_partner : (p : ℕ) → p < t → Tests (partner_in kinds operands c t p) (Race tr m p t)
    unfolding partner_in kinds_conflict trace_of
    test_partner p h =
        tests_map
        (λ w.
        let conflict : Conflict tr m p t =
        record {
          first_event = omega arith;
          second_event = inside;
          first_access = w.1.0.0;
          second_access = raced.2.conflict.second_access;
          one_location = w.0;
          conflicting_kinds = w.1.0.1;
        } in
        let larger = w.1.1 in
        (race_by_number tr m (number_in c) numbers p t h conflict).1 (omega arith))
        (λ race.
        let conflict = race.conflict in
        let larger = (race_by_number tr m (number_in c) numbers p t h conflict).0 race in
        (conflict.one_location, ((conflict.first_access, conflict.conflicting_kinds), λ le. omega arith)))
        (test_and _ _ (test_eq (get_or operands p 0) (get_or operands t 0))
        (test_and _ _ (test_and _ _ (test_self (is_access (get_or kinds p 0))) (test_self (conflicting (get_or kinds p 0) (get_or kinds t 0))))
        (test_not _ (test_reach_in c t p))))

    -- So `report` may be called.
    pub partnered : Partnered kinds operands c t
    unfolding trace_of
    partnered =
        record {
          access = raced.2.conflict.second_access;
          other = raced.0;
          earlier = raced.1;
          passed = (test_partner raced.0 raced.1).1 raced.2;
        }

    module _ {s : ℕ} (first : FirstPartner kinds operands c t s) where
      pair : Race tr m s t
      pair = (test_partner s first.earlier).0 first.passed

      -- The test by numbers is that of D.
      test_D : (p : ℕ) → p < m → Tests (in_d_in c s t p) (InD tr m s t p)
      unfolding in_d_in
      test_D p h =
          let by_number = in_d_by_number tr m (number_in c) numbers s t p first.earlier pair h in
          tests_map (λ w. by_number.1 w) (λ d. by_number.0 d)
          (test_or _ _ (test_and _ _ (test_lt p s) (test_reach_in c s p))
          (tests_map (λ w. (w.0.0, w.0.1, w.1)) (λ w. ((w.0, w.1), w.2))
          (test_and _ _ (test_and _ _ (test_lt s p) (test_lt p t)) (test_reach_in c t p))))

      same_order : (x y : ℕ) (buffer : List ℕ) → order_in c s t x y buffer ≡ schedule (in_d? tr m s t) s t x y ++ drop (suc t) buffer
      same_order x y buffer =
          ap (λ (o : List ℕ). o ++ drop (suc t) buffer)
          (schedule_same (in_d_in c s t) (in_d? tr m s t) s t x y
          (λ p h. tests_unique _ _ (test_D p (omega arith)) (test_in_D tr m numbers.forward s t p)))

    -- What `report` leaves, of n events of which the graph has m.
    pub reported : {b₁ a₁ b₂ a₂ : List ℕ} {s : ℕ} (n : ℕ) → m ≡ graph_events halt_operand tr n → NoRaceBefore tr m t
        → ReportedIn kinds operands c b₁ a₁ b₂ a₂ s t → Reported tr n b₁ a₁ b₂ a₂ s t
    reported {b₁} {a₁} {b₂} {a₂} {s} n whole none r =
        let first = r.partner in
        let before = first.earlier in
        let few = graph_le halt_operand tr n in
        let all = graph_kept halt_operand tr n in
        let kept = passes_earlier halt_operand tr (suc t) (graph_events halt_operand tr n) all.0 (omega arith) all.1 in
        record {
          pair =
              record {
                inside = omega arith;
                before = before;
                keeps_rules = record { line = kept.0; reached = kept.1 };
                pair = rw (← whole) (pair first);
                first = rw (← whole) none;
                earliest = rw (← whole) (λ p low. tests_fails _ (test_partner p (omega arith)) (first.none_before p low));
              };
          first = subst (λ (g : ℕ). a₁ ≡ schedule (in_d? tr g s t) s t s t ++ drop (suc t) b₁) whole (r.first ∙ same_order first s t b₁);
          second = subst (λ (g : ℕ). a₂ ≡ schedule (in_d? tr g s t) s t t s ++ drop (suc t) b₂) whole (r.second ∙ same_order first t s b₂);
        }
