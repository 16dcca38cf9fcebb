-- The search for the partner: what the code's test of one event says. Assumes nothing.
use Prim.Native.Nat.{ℕ}
use mathlib.Core.Path.{◌≡◌}
use mathlib.Core.Bool.{Bool, true, false, not}
use mathlib.Core.List.{List}
use mathlib.Core.Logic.{◌≢◌}
use lib.ListN.{get_or}
use borrow.Author.Tests.{eq-eqb, ne_eqb, not-true, not-false}
use Rattle.trace.specs.Trace.{is_access}
use Rattle.trace.specs.Race.{conflicting}
use Rattle.report.specs.Reports.{reach_in, kinds_conflict, partner_in}

-- ---- which kinds conflict

module _ (j k : ℕ) (access : Bool) (told : access ≡ is_access j) where
  -- The tests of the code, in their order.
  pub no_access : not access ≡ true → false ≡ kinds_conflict j k
  unfolding kinds_conflict
  no_access e = rw (← told, not-true access e)

  pub by_kinds : not access ≡ false → (conflict : Bool) → conflict ≡ conflicting j k → conflict ≡ kinds_conflict j k
  unfolding kinds_conflict
  by_kinds passed conflict read = rw (← told, not-false access passed) read

-- ---- the test of one event, in the order of the code

module _ (kinds operands c : List ℕ) (t p : ℕ) where
  pub other_location : get_or operands p 0 ≢ get_or operands t 0 → false ≡ partner_in kinds operands c t p
  unfolding partner_in
  other_location h = rw (ne_eqb (get_or operands p 0) (get_or operands t 0) h)

  module _ (same : get_or operands p 0 ≡ get_or operands t 0) (conflict : Bool) (told : conflict ≡ kinds_conflict (get_or kinds p 0) (get_or kinds t 0)) where
    pub no_conflict : conflict ≡ false → false ≡ partner_in kinds operands c t p
    unfolding partner_in
    no_conflict e = rw (eq-eqb (get_or operands p 0) (get_or operands t 0) same, ← told, e)

    pub by_number : (reaches : Bool) → reaches ≡ reach_in c t p → conflict ≡ true → not reaches ≡ partner_in kinds operands c t p
    unfolding partner_in
    by_number reaches read e = rw (eq-eqb (get_or operands p 0) (get_or operands t 0) same, ← told, e, ← read)
