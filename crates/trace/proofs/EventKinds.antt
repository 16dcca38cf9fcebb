-- The kinds of events, told apart. Every proof that asks whether an event is an access asks by `is_access` and uses these laws. Assumes nothing.
use Prim.Native.Nat.{ℕ}
use mathlib.Core.Path.{◌≡◌, refl, sym, ap, ◌∙◌}
use mathlib.Core.Bool.{true, false, true≢false}
use mathlib.Core.Logic.{◌⊎◌, ◌≢◌, inl, inr}
use native.Mathlib.Omega.{arith}
use lib.Dec.{eqb}
use borrow.Author.Tests.{eqb-false, leb-true}
use Rattle.trace.specs.Trace.{FORK, JOIN, HALT, READ, WRITE, SUM, is_kind, is_access}
use Rattle.trace.proofs.Tests.{either, Tests, tests_fails, test_or, test_eq}

-- An access is a read, a write or a sum.
abbrev pub AccessKind : ℕ → Type 0
AccessKind k = (k ≡ READ) ⊎ ((k ≡ WRITE) ⊎ (k ≡ SUM))

pub test_access : (k : ℕ) → Tests (is_access k) (AccessKind k)
unfolding is_access
test_access k = test_or _ _ (test_eq k READ) (test_or _ _ (test_eq k WRITE) (test_eq k SUM))

-- The three themselves.
pub each_access : (is_access READ ≡ true) × (is_access WRITE ≡ true) × (is_access SUM ≡ true)
unfolding is_access
each_access = (refl, refl, refl)

-- An access is no kind that is no access.
access_apart : (k other : ℕ) → is_access k ≡ true → is_access other ≡ false → k ≢ other
access_apart k other a b e = true≢false (sym a ∙ (ap is_access e ∙ b))

-- In particular it is no fork, join or halt.
pub access_not_fork : (k : ℕ) → is_access k ≡ true → k ≢ FORK
unfolding is_access
access_not_fork k a = access_apart k FORK a refl

pub access_not_join : (k : ℕ) → is_access k ≡ true → k ≢ JOIN
unfolding is_access
access_not_join k a = access_apart k JOIN a refl

pub access_not_halt : (k : ℕ) → is_access k ≡ true → k ≢ HALT
unfolding is_access
access_not_halt k a = access_apart k HALT a refl

-- The documents name every access.
pub access_is_kind : (k : ℕ) → is_access k ≡ true → is_kind k ≡ true
unfolding is_kind
access_is_kind k a = either ((test_access k).0 a) (λ e. rw e) (λ b. either b (λ e. rw e) (λ e. rw e))

-- A kind that the documents name and that is no access, fork or join is a halt.
pub rest_is_halt : (k : ℕ) → is_kind k ≡ true → is_access k ≡ false → eqb k FORK ≡ false → eqb k JOIN ≡ false → k ≡ HALT
unfolding is_kind
rest_is_halt k named a f j =
    let small = leb-true k SUM named in
    let no = tests_fails (is_access k) (test_access k) a in
    let not_read : k ≢ READ = λ e. no (inl e) in
    let not_write : k ≢ WRITE = λ e. no (inr (inl e)) in
    let not-sum : k ≢ SUM = λ e. no (inr (inr e)) in
    let not_fork : k ≢ FORK = eqb-false k FORK f in
    let not-join : k ≢ JOIN = eqb-false k JOIN j in
    omega arith
