-- Which of two conflicting events is named first makes no difference. Assumes nothing.
use Prim.Native.Nat.{ℕ}
use mathlib.Core.Path.{sym, ◌∙◌}
use Rattle.trace.specs.Trace.{Trace}
use Rattle.trace.specs.Race.{Conflict}
use Rattle.trace.proofs.Conflicts.{conflicting_sym}

module _ (tr : Trace) (n : ℕ) where
  pub conflict_sym : {p q : ℕ} → Conflict tr n p q → Conflict tr n q p
  conflict_sym {p} {q} c =
      record {
        first_event = c.second_event;
        second_event = c.first_event;
        first_access = c.second_access;
        second_access = c.first_access;
        one_location = sym c.one_location;
        conflicting_kinds = conflicting_sym (tr.kind q) (tr.kind p) ∙ c.conflicting_kinds;
      }
