-- The race test of one earlier event, as the code asks it of what it keeps of an access. Assumes nothing.
use Prim.Native.Nat.{ℕ, ◌<◌}
use mathlib.Core.Path.{◌≡◌, refl, ◌∙◌}
use mathlib.Core.Bool.{Bool, true, false, ◌&&◌, or-false}
use mathlib.Core.List.{List}
use mathlib.Core.Logic.{inl, inr}
use lib.Dec.{eqb}
use lib.ListN.{get_or}
use borrow.Author.Tests.{ne_eqb}
use Rattle.trace.specs.Trace.{READ, WRITE, SUM, is_access}
use Rattle.trace.specs.Race.{conflicting}
use Rattle.trace.proofs.Tests.{Tests, by_test, either, tests_map, tests_fails, test_self, test_eq, test_lt, test_and}
use Rattle.trace.proofs.EventKinds.{test_access}
use Rattle.cells.specs.Cells.{number_in}
use Rattle.scan.specs.Numbered.{RaceByNumber}
use Rattle.pairs.specs.declared.Access.{Access}
use Rattle.pairs.specs.Close.{race_by, AccessAt, conflicts_in, partner_in}

-- ---- the kinds that conflict with an access's own

module _ (k own : ℕ) (a : Access) (read : a.read ≡ conflicting READ own) (write : a.write ≡ conflicting WRITE own) (sum : a.sum ≡ conflicting SUM own) where
  conflicts_is : conflicts_in k a ≡ is_access k && conflicting k own
  unfolding conflicts_in
  conflicts_is =
      by_test (is_access k)
      (λ yes.
      rw yes
      (either ((test_access k).0 yes) (λ e. rw e (or-false _ ∙ (or-false a.read ∙ read)))
      (λ o. either o (λ e. rw e (or-false a.write ∙ write)) (λ e. rw e sum))))
      (λ no.
      let none = tests_fails _ (test_access k) no in
      rw (ne_eqb k READ (λ e. none (inl e)), ne_eqb k WRITE (λ e. none (inr (inl e))), ne_eqb k SUM (λ e. none (inr (inr e))), no))

-- ---- the test, by what is kept of the access t

module _ (kinds operands c : List ℕ) (t : ℕ) (a : Access) (at : AccessAt kinds operands c t a) (access : is_access (get_or kinds t 0) ≡ true) where
  pub partner_is : (s : ℕ) → partner_in kinds operands c a s ≡ race_by kinds operands (number_in c) s t
  unfolding partner_in race_by
  partner_is s =
      rw (access, conflicts_is (get_or kinds s 0) (get_or kinds t 0) a at.read at.write at.sum, at.location, at.number)
      (and_assoc (eqb (get_or operands s 0) (get_or operands t 0)) _ _)
    where
      and_assoc : (x y z : Bool) → (x && y) && z ≡ x && (y && z)
      and_assoc true y z = refl
      and_assoc false y z = refl

-- ---- what it says

module _ (kinds operands : List ℕ) (number : ℕ → ℕ) (s t : ℕ) where
  pub test_race_by : s < t → Tests (race_by kinds operands number s t) (RaceByNumber kinds operands number s t)
  unfolding race_by
  test_race_by before =
      tests_map
      (λ w.
      record {
        before = before;
        access = w.0;
        against = record { access = w.1.1.0.0; one_location = w.1.0; conflicting_kinds = w.1.1.0.1 };
        smaller = w.1.1.1;
      })
      (λ r. let a = r.against in (r.access, (a.one_location, ((a.access, a.conflicting_kinds), r.smaller))))
      (test_and _ _ (test_self (is_access (get_or kinds t 0)))
      (test_and _ _ (test_eq (get_or operands s 0) (get_or operands t 0))
      (test_and _ _ (test_and _ _ (test_self (is_access (get_or kinds s 0))) (test_self (conflicting (get_or kinds s 0) (get_or kinds t 0))))
      (test_lt (number t) (number s)))))

  -- Numbers that are the same for s and t say the same.
  pub race_by_same : (number' : ℕ → ℕ) → number s ≡ number' s → number t ≡ number' t → race_by kinds operands number s t ≡ race_by kinds operands number' s t
  unfolding race_by
  race_by_same number' e f = rw (e, f)
