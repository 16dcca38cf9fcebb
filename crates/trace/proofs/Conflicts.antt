-- Conflicts in terms of reads, writes and sums: a write of a location conflicts with every access of it, a read of it with a sum, and there are no others. The
-- theorems on orders rest on this file and not on the definition of the kinds that conflict. Assumes nothing.
use Prim.Native.Nat.{ℕ, ◌<◌}
use native.Mathlib.Omega.{arith}
use mathlib.Core.Path.{◌≡◌, refl, sym, ◌∙◌}
use mathlib.Core.Logic.{◌⊎◌, inl, inr}
use mathlib.Core.Bool.{Bool, true, false}
use mathlib.Core.List.{List, [], ◌∷◌, map}
use Rattle.trace.specs.Trace.{Trace, READ, WRITE, SUM, is_access}
use Rattle.trace.specs.Race.{conflicting, Conflict}
use Rattle.trace.specs.Orders.{writes, sums}
use Rattle.trace.proofs.Tests.{Tests, tests_map, tests_unique, either, test_and, test_or, test_eq}
use Rattle.trace.proofs.EventKinds.{test_access}
use Rattle.trace.proofs.OrderFacts.{test_writes, test_sums}

-- Kinds of accesses conflict if one of the two is a write, or one a read and one a sum.
abbrev pub ConflictingKinds : ℕ → ℕ → Type 0
ConflictingKinds j k = ((j ≡ WRITE) ⊎ (k ≡ WRITE)) ⊎ (((j ≡ READ) × (k ≡ SUM)) ⊎ ((j ≡ SUM) × (k ≡ READ)))

pub test_conflicting : (j k : ℕ) → Tests (conflicting j k) (ConflictingKinds j k)
unfolding conflicting
test_conflicting j k =
    test_or _ _ (test_or _ _ (test_eq j WRITE) (test_eq k WRITE))
    (test_or _ _ (test_and _ _ (test_eq j READ) (test_eq k SUM)) (test_and _ _ (test_eq j SUM) (test_eq k READ)))

-- THE TABLE of the nine pairs, computed: a row for each kind of access and in it a column for each, yes exactly where the two conflict.
abbrev pub access_kinds : List ℕ
access_kinds = READ ∷ WRITE ∷ SUM ∷ []

abbrev pub conflict_table : List (List Bool)
conflict_table =
    (false ∷ true ∷ true ∷ [])
    ∷ (true ∷ true ∷ true ∷ [])
    ∷ (true ∷ true ∷ false ∷ [])
    ∷ []

pub table_rule : conflict_table ≡ map (λ j. map (conflicting j) access_kinds) access_kinds
unfolding conflicting
table_rule = refl

-- Which of the two is named first makes no difference.
pub conflicting_sym : (j k : ℕ) → conflicting j k ≡ conflicting k j
conflicting_sym j k =
    tests_unique _ _ (test_conflicting j k) (tests_map (turned k j) (turned j k) (test_conflicting k j))
  where
    turned : (j k : ℕ) → ConflictingKinds j k → ConflictingKinds k j
    turned j k kinds = either kinds (λ w. inl (either w (λ e. inr e) (λ e. inl e))) (λ m. inr (either m (λ h. inr (h.1, h.0)) (λ h. inl (h.1, h.0))))

-- Event p writes the location l or adds to it.
abbrev pub Changes : Trace → ℕ → ℕ → Type 0
Changes tr l p = (writes tr l p ≡ true) ⊎ (sums tr l p ≡ true)

-- Of two accesses that conflict one reads what the other changes, or both write, or one writes and one sums.
pub data ConflictCase (tr : Trace) (l p q : ℕ) : Type 0 where
  first_reads : tr.kind p ≡ READ → Changes tr l q → ConflictCase tr l p q
  second_reads : Changes tr l p → tr.kind q ≡ READ → ConflictCase tr l p q
  both_write : writes tr l p ≡ true → writes tr l q ≡ true → ConflictCase tr l p q
  first_sums : sums tr l p ≡ true → writes tr l q ≡ true → ConflictCase tr l p q
  second_sums : writes tr l p ≡ true → sums tr l q ≡ true → ConflictCase tr l p q

module _ (tr : Trace) (n : ℕ) where
  -- A write conflicts with each access of its location.
  pub write_access_conflict :
      (l p q : ℕ) → p < n → q < n → writes tr l p ≡ true → is_access (tr.kind q) ≡ true → tr.operand q ≡ l → Conflict tr n p q
  write_access_conflict l p q lp lq write access location =
      let fact = (test_writes tr l p).0 write in
      record {
        first_event = lp;
        second_event = lq;
        first_access = (test_access (tr.kind p)).1 (inr (inl fact.0));
        second_access = access;
        one_location = fact.1 ∙ sym location;
        conflicting_kinds = (test_conflicting (tr.kind p) (tr.kind q)).1 (inl (inl fact.0));
      }

  -- A sum conflicts with each read of its location.
  pub sum_read_conflict :
      (l u r : ℕ) → u < n → r < n → sums tr l u ≡ true → tr.kind r ≡ READ → tr.operand r ≡ l → Conflict tr n u r
  sum_read_conflict l u r lu lr sum read location =
      let fact = (test_sums tr l u).0 sum in
      record {
        first_event = lu;
        second_event = lr;
        first_access = (test_access (tr.kind u)).1 (inr (inr fact.0));
        second_access = (test_access (tr.kind r)).1 (inl read);
        one_location = fact.1 ∙ sym location;
        conflicting_kinds = (test_conflicting (tr.kind u) (tr.kind r)).1 (inr (inr (fact.0, read)));
      }

  pub conflict_cases : {p q : ℕ} → Conflict tr n p q → ConflictCase tr (tr.operand p) p q
  conflict_cases {p} {q} c =
      let kinds = (test_conflicting (tr.kind p) (tr.kind q)).0 c.conflicting_kinds in
      either ((test_access (tr.kind p)).0 c.first_access)
      (λ read.
      first_reads read
      (either kinds (λ w. either w (λ e. absurd (omega arith)) (λ e. inl (writes_q e)))
      (λ m. either m (λ h. inr (sums_q h.1)) (λ h. let e = h.0 in absurd (omega arith)))))
      (λ a.
      either ((test_access (tr.kind q)).0 c.second_access) (λ read. second_reads (either a (λ e. inl (writes_p e)) (λ e. inr (sums_p e))) read)
      (λ b.
      either a (λ e. either b (λ f. both_write (writes_p e) (writes_q f)) (λ f. second_sums (writes_p e) (sums_q f)))
      (λ e.
      either b (λ f. first_sums (sums_p e) (writes_q f))
      (λ f.
      absurd
      (either kinds (λ w. either w (λ g. omega arith) (λ g. omega arith))
      (λ m. either m (λ h. let g = h.0 in omega arith) (λ h. let g = h.1 in omega arith)))))))
    where
      writes_p : tr.kind p ≡ WRITE → writes tr (tr.operand p) p ≡ true
      writes_p e = (test_writes tr (tr.operand p) p).1 (e, refl)

      writes_q : tr.kind q ≡ WRITE → writes tr (tr.operand p) q ≡ true
      writes_q e = (test_writes tr (tr.operand p) q).1 (e, sym c.one_location)

      sums_p : tr.kind p ≡ SUM → sums tr (tr.operand p) p ≡ true
      sums_p e = (test_sums tr (tr.operand p) p).1 (e, refl)

      sums_q : tr.kind q ≡ SUM → sums tr (tr.operand p) q ≡ true
      sums_q e = (test_sums tr (tr.operand p) q).1 (e, sym c.one_location)
