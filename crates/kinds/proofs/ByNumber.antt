-- Kinds by their numbers, as the code tells them apart, and the accesses counted up from 0. Assumes nothing.
use Prim.Native.Nat.{ℕ, ◌<◌}
use mathlib.Core.Path.{◌≡◌, sym, ap, ◌∙◌}
use mathlib.Core.Bool.{true, not, ◌&&◌, ◌||◌}
use mathlib.Core.Logic.{◌≢◌, inl, inr}
use native.Mathlib.Omega.{arith}
use lib.Dec.{eqb, leb, ltb}
use lib.ListN.{get_or}
use borrow.Author.Tests.{lt-ltb, leb-true}
use Rattle.trace.specs.Trace.{FORK, HALT, READ, WRITE, SUM, is_kind, is_access}
use Rattle.trace.proofs.Tests.{either, last_or_below, tests_map, tests_unique, test_and, test_or, test_not, test_eq, test_lt, test_le}
use Rattle.trace.proofs.EventKinds.{test_access}
use Rattle.trace.proofs.Conflicts.{access_kinds}
use Rattle.kinds.specs.Kinds.{index_of}

-- Reads and writes are the kinds before the fork's.
pub access_by_number : (k : ℕ) → (ltb k FORK || eqb k SUM) ≡ is_access k
access_by_number k =
    tests_unique _ _
    (tests_map (λ h. either h (λ l. either (last_or_below k 1 l) (λ e. inr (inl e)) (λ e. inl (omega arith))) (λ e. inr (inr e)))
    (λ a. either a (λ e. inl (omega arith)) (λ b. either b (λ e. inl (omega arith)) (λ e. inr e)))
    (test_or _ _ (test_lt k FORK) (test_eq k SUM)))
    (test_access k)

pub access_below : (k : ℕ) → k < FORK → is_access k ≡ true
access_below k low = sym (access_by_number k) ∙ rw (lt-ltb k FORK low)

-- Among the kinds that the documents name, forks, joins and halts are those from the fork's to the halt's.
pub move_by_number : (k : ℕ) → is_kind k ≡ true → (leb FORK k && leb k HALT) ≡ not (is_access k)
unfolding is_kind
move_by_number k named =
    tests_unique _ _ (test_and _ _ (test_le FORK k) (test_le k HALT))
    (tests_map
    (λ no.
    let small = leb-true k SUM named in
    let not_read : k ≢ READ = λ e. no (inl e) in
    let not_write : k ≢ WRITE = λ e. no (inr (inl e)) in
    let not-sum : k ≢ SUM = λ e. no (inr (inr e)) in
    (omega arith, omega arith))
    (λ between a.
    let low = between.0 in
    let high = between.1 in
    either a (λ e. omega arith) (λ b. either b (λ e. omega arith) (λ e. omega arith)))
    (test_not _ (test_access k)))

-- ---- the accesses counted up from 0

-- Each stands at its index in `access_kinds`,
pub at_index : (k : ℕ) → is_access k ≡ true → get_or access_kinds (index_of k) 0 ≡ k
unfolding index_of
at_index k a = either ((test_access k).0 a) (λ e. rw e) (λ b. either b (λ e. rw e) (λ e. rw e))

-- whose length is 3,
pub index_few : (k : ℕ) → is_access k ≡ true → index_of k < 3
unfolding index_of
index_few k a = either ((test_access k).0 a) (λ e. rw e (omega arith)) (λ b. either b (λ e. rw e (omega arith)) (λ e. rw e (omega arith)))

-- so two of different kinds have different ones.
pub index_apart : (j k : ℕ) → is_access j ≡ true → is_access k ≡ true → j ≢ k → index_of j ≢ index_of k
index_apart j k a b other same = other (sym (at_index j a) ∙ ap (λ i. get_or access_kinds i 0) same ∙ at_index k b)
