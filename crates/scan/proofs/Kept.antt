-- The cells of an access that is kept, where it passes the test and where it races. Assumes nothing.
use Prim.Native.Nat.{ℕ, max, ◌+◌, ◌-◌, ◌<◌, ◌≤◌}
use mathlib.Core.Path.{◌≡◌, refl, sym, ◌∙◌}
use mathlib.Core.Bool.{Bool, true, false, true≢false}
use mathlib.Core.List.{List}
use mathlib.Core.Logic.{◌≢◌}
use native.Mathlib.Omega.{arith}
use lib.ListN.{length, get_or, set, length-set}
use lib.Seq.{get_or-set_other}
use Rattle.trace.specs.Trace.{READ, WRITE, SUM, is_access}
use Rattle.trace.specs.Race.{conflicting}
use Rattle.trace.proofs.Tests.{either}
use Rattle.trace.proofs.EventKinds.{test_access}
use Rattle.scan.specs.Tables.{FOR_READS, FOR_SUMS, first_held, second_held, held_against, raised}
use Rattle.scan.specs.Tables.{stored_in, kept_in, TestSays, raised_in, raced_in, RaceSays}

-- ---- kind by kind

module _ (c : List ℕ) (o x : ℕ) where
  pub kept_read : kept_in c READ o x ≡ stored_in c FOR_SUMS FOR_SUMS o x
  unfolding kept_in conflicting
  kept_read = refl

  pub kept_write : kept_in c WRITE o x ≡ stored_in c FOR_SUMS FOR_READS o x
  unfolding kept_in conflicting
  kept_write = refl

  pub kept_sum : kept_in c SUM o x ≡ stored_in c FOR_READS FOR_READS o x
  unfolding kept_in conflicting
  kept_sum = refl

  pub kept_long : (j : ℕ) → length (kept_in c j o x) ≡ length c
  unfolding kept_in stored_in
  kept_long j = simp length-set

  pub stored_apart : (first second i : ℕ) → i ≢ first + o → i ≢ second + o → get_or (stored_in c first second o x) i 0 ≡ get_or c i 0
  unfolding stored_in
  stored_apart first second i d e =
      get_or-set_other (set c (first + o) (raised c first o x)) (second + o) i (raised c first o x) 0 e
      ∙ get_or-set_other c (first + o) i (raised c first o x) 0 d

  -- Other cells than those of the location are left.
  pub kept_other : (j : ℕ) → is_access j ≡ true → (i : ℕ) → i ≢ FOR_READS + o → i ≢ FOR_SUMS + o → get_or (kept_in c j o x) i 0 ≡ get_or c i 0
  kept_other j access i d e =
      either ((test_access j).0 access) (λ k. rw (k, kept_read) (stored_apart FOR_SUMS FOR_SUMS i e e))
      (λ b.
      either b (λ k. rw (k, kept_write) (stored_apart FOR_SUMS FOR_READS i e d)) (λ k. rw (k, kept_sum) (stored_apart FOR_READS FOR_READS i d d)))

-- ---- what the functions return and leave

module _ (c : List ℕ) (k l x : ℕ) where
  pub held_back :
      (first second a b r : ℕ) → first ≡ first_held k → second ≡ second_held k → a ≡ get_or c (first + l) 0 → b ≡ get_or c (second + l) 0 → r ≡ max a b → x < r
      → TestSays c c k l x false
  unfolding held_against
  held_back first second a b r one two read read' larger low =
      let held : r ≡ max (get_or c (first_held k + l) 0) (get_or c (second_held k + l) 0) = cc (one, two, read, read', larger) in
      (omega arith, refl)

  pub passed :
      (first second a b r : ℕ) (d : List ℕ) → first ≡ first_held k → second ≡ second_held k → a ≡ get_or c (first + l) 0 → b ≡ get_or c (second + l) 0 → r ≡ max a b
      → r ≤ x → d ≡ stored_in c (FOR_SUMS - second) (FOR_SUMS - first) l x → TestSays c d k l x true
  unfolding held_against kept_in
  passed first second a b r d one two read read' larger high stored =
      let held : r ≡ max (get_or c (first_held k + l) 0) (get_or c (second_held k + l) 0) = cc (one, two, read, read', larger) in
      (omega arith, cc (one, two, stored))

-- An access that is kept though it races.
module _ (c d : List ℕ) (k l x : ℕ) where
  pub kept_quiet : (r : Bool) → r ≡ true → TestSays c d k l x r → RaceSays c d k l x false
  kept_quiet true e says = says
  kept_quiet false e says = absurd (true≢false (sym e))

  pub kept_racing :
      (r : Bool) (first second : ℕ) (one two : List ℕ) → r ≡ false → TestSays c d k l x r → (second ≡ second_held k) × (second ≤ FOR_SUMS)
      → one ≡ raised_in d (FOR_SUMS - second) l x → (first ≡ first_held k) × (first ≤ FOR_SUMS) → two ≡ raised_in one (FOR_SUMS - first) l x
      → RaceSays c two k l x true
  unfolding raced_in
  kept_racing true first second one two e says s stored f stored' = absurd (true≢false e)
  kept_racing false first second one two e says s stored f stored' = let held = s.0 in let held' = f.0 in (says.0, cc (says.1, held, held', stored, stored'))
