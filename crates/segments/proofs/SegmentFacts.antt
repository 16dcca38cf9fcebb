-- The segments of any trace, and their second order: it has each segment that has begun once, segment 0 first; a move puts the next one right after one
-- that has begun; so later events keep the order of earlier ones. Assumes nothing.
use Prim.Native.Nat.{ℕ, zero, suc, ◌+◌, ◌<◌, ◌≤◌}
use mathlib.Core.Path.{◌≡◌, refl, sym, subst}
use mathlib.Core.Bool.{true, false}
use mathlib.Core.List.{List, [], ◌∷◌, tail}
use mathlib.Core.Logic.{inl, inr, ◌≢◌, ◌↔◌}
use native.Mathlib.Omega.{arith}
use lib.Dec.{eqb}
use borrow.Author.Tests.{ne_eqb}
use Rattle.trace.specs.Trace.{Trace, FORK, JOIN, HALT, is_access}
use Rattle.trace.specs.Orders.{one_if, occurrences, Order, place}
use Rattle.segments.specs.Segments.{moves, segment, insert_after, top, source, opened, segments, rank}
use Rattle.trace.proofs.Tests.{by_test, either, same_or_not, last_or_below}
use Rattle.trace.proofs.Lists.{one_if_same, one_if_other, place_here}
use Rattle.trace.proofs.Stacks.{In}
use Rattle.segments.proofs.Insertion.{occurrences_insert, Inserted, inserted}

-- ---- the segments

in_tail : (a : ℕ) (l : List ℕ) → In a (tail l) → In a l
in_tail a [] i = i
in_tail a (y ∷ l) i = inr i

top_old : (g : ℕ) (l : List ℕ) → ((a : ℕ) → In a l → a < g) → top g l ≤ g
unfolding top
top_old g [] f = omega arith
top_old g (y ∷ l) f = omega (arith, f y (inl refl))

module _ (tr : Trace) where
  pub moves_access : (n : ℕ) → is_access (tr.kind n) ≡ true → moves tr (suc n) ≡ moves tr n
  unfolding moves
  moves_access n a = rw a

  pub moves_move : (n : ℕ) → is_access (tr.kind n) ≡ false → moves tr (suc n) ≡ suc (moves tr n)
  unfolding moves
  moves_move n a = rw a

  pub segments_access : (n : ℕ) → is_access (tr.kind n) ≡ true → segments tr (suc n) ≡ segments tr n
  unfolding segments
  segments_access n a = rw a

  pub segments_move : (n : ℕ) → is_access (tr.kind n) ≡ false → segments tr (suc n) ≡ opened (tr.kind n) (moves tr n) (segments tr n)
  unfolding segments
  segments_move n a = rw a

  pub segment_own : (n : ℕ) → tr.kind n ≢ JOIN → segment tr n ≡ moves tr n
  unfolding segment
  segment_own n k = rw (ne_eqb (tr.kind n) JOIN k)

  pub segment_join : (n : ℕ) → tr.kind n ≡ JOIN → segment tr n ≡ suc (moves tr n)
  unfolding segment
  segment_join n k = rw k

  pub join_moves : (n : ℕ) → tr.kind n ≡ JOIN → is_access (tr.kind n) ≡ false
  unfolding is_access
  join_moves n k = rw k

  pub fork_moves : (n : ℕ) → tr.kind n ≡ FORK → is_access (tr.kind n) ≡ false
  unfolding is_access
  fork_moves n k = rw k

  pub halt_moves : (n : ℕ) → tr.kind n ≡ HALT → is_access (tr.kind n) ≡ false
  unfolding is_access
  halt_moves n k = rw k

  moves_grow : (n : ℕ) → moves tr n ≤ moves tr (suc n)
  moves_grow n =
      by_test (is_access (tr.kind n)) (λ e. omega (arith, moves_access n e)) (λ e. omega (arith, moves_move n e))

  -- The segments of the first n events have begun.
  pub segment_old : (n p : ℕ) → p < n → segment tr p ≤ moves tr n
  segment_old zero p h = absurd (omega arith)
  segment_old (suc n) p h =
      either (last_or_below p n h)
      (λ e. rw e (either (same_or_not (tr.kind n) JOIN)
      (λ k. omega (arith, segment_join n k, moves_move n (join_moves n k)))
      (λ k. omega (arith, segment_own n k, moves_grow n))))
      (λ i. omega (arith, segment_old n p i, moves_grow n))

  pub moves_rise : (p q : ℕ) → p ≤ q → moves tr p ≤ moves tr q
  moves_rise p zero h = let e : p ≡ 0 = omega arith in rw e (omega arith)
  moves_rise p (suc q) h =
      either (same_or_not p (suc q)) (λ e. rw e (omega arith)) (λ d. omega (arith, moves_rise p q (omega arith), moves_grow q))

  -- Each segment but the open one has its move.
  pub move_of : (n g : ℕ) → g < moves tr n → (e : ℕ) × (e < n) × (is_access (tr.kind e) ≡ false) × (moves tr e ≡ g)
  unfolding moves
  move_of zero g h = absurd (omega arith)
  move_of (suc n) g h =
      let wider : (e : ℕ) × (e < n) × (is_access (tr.kind e) ≡ false) × (moves tr e ≡ g) →
      (e : ℕ) × (e < suc n) × (is_access (tr.kind e) ≡ false) × (moves tr e ≡ g) =
      λ w. let i = w.1 in (w.0, omega arith, w.2, w.3) in
      by_test (is_access (tr.kind n))
      (λ a. let h' : g < moves tr n = rw a at h in wider (move_of n g h'))
      (λ a. let h' : g < suc (moves tr n) = rw a at h in
      either (last_or_below g (moves tr n) h')
      (λ e. (n, omega arith, a, sym e))
      (λ i. wider (move_of n g i)))

  -- The stacks hold segments that have ended.
  pub record Old (n : ℕ) : Type 0 where
    pub of_forks : (a : ℕ) → In a (segments tr n).forks → a < moves tr n
    pub of_halts : (a : ℕ) → In a (segments tr n).halts → a < moves tr n

  pub old : (n : ℕ) → Old n
  unfolding segments opened
  old zero = record { of_forks = λ a i. absurd i; of_halts = λ a i. absurd i }
  old (suc n) =
      let o = old n in
      by_test (is_access (tr.kind n))
      (λ e. let m = moves_access n e in
      record {
        of_forks = λ a i. let i' : In a (segments tr n).forks = rw e at i in omega (arith, o.of_forks a i');
        of_halts = λ a i. let i' : In a (segments tr n).halts = rw e at i in omega (arith, o.of_halts a i');
      })
      (λ e. let m = moves_move n e in
      by_test (eqb (tr.kind n) FORK)
      (λ f.
      record {
        of_forks = λ a i. let i' : In a (moves tr n ∷ (segments tr n).forks) = rw (e, f) at i in
            either i' (λ q. omega arith) (λ j. omega (arith, o.of_forks a j));
        of_halts = λ a i. let i' : In a (segments tr n).halts = rw (e, f) at i in omega (arith, o.of_halts a i');
      })
      (λ f. by_test (eqb (tr.kind n) JOIN)
      (λ j.
      record {
        of_forks = λ a i. let i' : In a (segments tr n).forks = rw (e, f, j) at i in omega (arith, o.of_forks a i');
        of_halts = λ a i. let i' : In a (tail (segments tr n).halts) = rw (e, f, j) at i in
            omega (arith, o.of_halts a (in_tail a (segments tr n).halts i'));
      })
      (λ j.
      record {
        of_forks = λ a i. let i' : In a (tail (segments tr n).forks) = rw (e, f, j) at i in
            omega (arith, o.of_forks a (in_tail a (segments tr n).forks i'));
        of_halts = λ a i. let i' : In a (moves tr n ∷ (segments tr n).halts) = rw (e, f, j) at i in
            either i' (λ q. omega arith) (λ l. omega (arith, o.of_halts a l));
      })))

  -- The segment that the next one is put after has begun.
  pub source_old : (n k : ℕ) → source k (moves tr n) (segments tr n) ≤ moves tr n
  unfolding source
  source_old n k =
      let o = old n in
      by_test (eqb k FORK) (λ f. rw f (omega arith)) (λ f. by_test (eqb k JOIN)
      (λ j. rw (f, j) (top_old (moves tr n) (segments tr n).halts o.of_halts))
      (λ j. rw (f, j) (top_old (moves tr n) (segments tr n).forks o.of_forks)))

  one_more : (n p : ℕ) → is_access (tr.kind n) ≡ false →
      occurrences p (segments tr (suc n)).order ≡ one_if (suc (moves tr n)) p + occurrences p (segments tr n).order
  unfolding opened
  one_more n p e =
      rw (segments_move n e) (occurrences_insert p (source (tr.kind n) (moves tr n) (segments tr n)) (suc (moves tr n)) (segments tr n).order)

  -- Whatever the trace, the segments that have begun are in the order, each once.
  pub segments_order : (n : ℕ) → Order (suc (moves tr n)) (segments tr n).order
  unfolding segments moves
  segments_order zero =
      record {
        once = λ p h. omega (arith, one_if_same 0 p (omega arith));
        no_other = λ p h. omega (arith, one_if_other 0 p (λ e. omega arith));
      }
  segments_order (suc n) =
      let o = segments_order n in
      by_test (is_access (tr.kind n))
      (λ e. rw e o)
      (λ e. let m = moves_move n e in
      record {
        once = λ p h. either (same_or_not p (suc (moves tr n)))
            (λ q. omega (arith, one_more n p e, one_if_same (suc (moves tr n)) p (sym q), o.no_other p (omega arith)))
            (λ d. omega (arith, one_more n p e, one_if_other (suc (moves tr n)) p (λ q. d (sym q)), o.once p (omega arith)));
        no_other = λ p h. omega (arith, one_more n p e, one_if_other (suc (moves tr n)) p (λ q. omega arith), o.no_other p (omega arith));
      })

  -- A move puts the next segment right after its source.
  pub put_next : (n : ℕ) → is_access (tr.kind n) ≡ false →
      Inserted (source (tr.kind n) (moves tr n) (segments tr n)) (suc (moves tr n)) (segments tr n).order (segments tr (suc n)).order
  unfolding opened
  put_next n e =
      let o = segments_order n in
      let m = source (tr.kind n) (moves tr n) (segments tr n) in
      rw (segments_move n e) (inserted m (suc (moves tr n)) (segments tr n).order (omega (arith, o.once m (omega (arith, source_old n (tr.kind n)))))
      (o.no_other (suc (moves tr n)) (omega arith)))

  -- One event more does not change the order of two segments.
  pub kept_next : (n a b : ℕ) → a ≤ moves tr n → b ≤ moves tr n →
      (place a (segments tr n).order ≤ place b (segments tr n).order) ↔ (place a (segments tr (suc n)).order ≤ place b (segments tr (suc n)).order)
  kept_next n a b h i =
      by_test (is_access (tr.kind n))
      (λ e. rw (segments_access n e) (λ l. l, λ l. l))
      (λ e. (put_next n e).others a b (λ q. omega arith) (λ q. omega arith))

  -- Later events do not change the order of the ranks of earlier ones.
  pub rank_prefix : (m n p q : ℕ) → m ≤ n → p < m → q < m → (rank tr m p ≤ rank tr m q) ↔ (rank tr n p ≤ rank tr n q)
  unfolding rank
  rank_prefix m zero p q l h i = absurd (omega arith)
  rank_prefix m (suc n) p q l h i =
      either (same_or_not m (suc n))
      (λ e. rw e (λ a. a, λ a. a))
      (λ d.
      let before = rank_prefix m n p q (omega arith) h i in
      let now = kept_next n (segment tr p) (segment tr q) (segment_old n p (omega arith)) (segment_old n q (omega arith)) in
      (λ a. now.0 (before.0 a), λ a. before.1 (now.1 a)))

-- ---- the segments after a move of each kind

module _ (tr : Trace) where
  -- The next segment right after m, with these two stacks.
  pub record Opens (n m : ℕ) (forks halts : List ℕ) : Type 0 where
    pub one_more_move : moves tr (suc n) ≡ suc (moves tr n)
    pub put : Inserted m (suc (moves tr n)) (segments tr n).order (segments tr (suc n)).order
    pub forks_are : (segments tr (suc n)).forks ≡ forks
    pub halts_are : (segments tr (suc n)).halts ≡ halts

  opens : (n m : ℕ) (forks halts : List ℕ) → is_access (tr.kind n) ≡ false → source (tr.kind n) (moves tr n) (segments tr n) ≡ m →
      (opened (tr.kind n) (moves tr n) (segments tr n)).forks ≡ forks → (opened (tr.kind n) (moves tr n) (segments tr n)).halts ≡ halts →
      Opens n m forks halts
  opens n m forks halts e a b c =
      record {
        one_more_move = moves_move tr n e;
        put = subst (λ (z : ℕ). Inserted z (suc (moves tr n)) (segments tr n).order (segments tr (suc n)).order) a (put_next tr n e);
        forks_are = rw (segments_move tr n e) b;
        halts_are = rw (segments_move tr n e) c;
      }

  pub opens_fork : (n : ℕ) → tr.kind n ≡ FORK → Opens n (moves tr n) (moves tr n ∷ (segments tr n).forks) (segments tr n).halts
  unfolding source opened
  opens_fork n k = opens n _ _ _ (fork_moves tr n k) (rw k) (rw k) (rw k)

  pub opens_join : (n : ℕ) → tr.kind n ≡ JOIN → Opens n (top (moves tr n) (segments tr n).halts) (segments tr n).forks (tail (segments tr n).halts)
  unfolding source opened
  opens_join n k = opens n _ _ _ (join_moves tr n k) (rw k) (rw k) (rw k)

  pub opens_halt : (n : ℕ) → tr.kind n ≡ HALT →
      Opens n (top (moves tr n) (segments tr n).forks) (tail (segments tr n).forks) (moves tr n ∷ (segments tr n).halts)
  unfolding source opened
  opens_halt n k = opens n _ _ _ (halt_moves tr n k) (rw k) (rw k) (rw k)

-- ---- segment 0 comes first

insert_first : (m x : ℕ) (l : List ℕ) → (r : List ℕ) × (insert_after m x (0 ∷ l) ≡ 0 ∷ r)
unfolding insert_after
insert_first m x l = by_test (eqb 0 m) (λ e. rw e (x ∷ l, refl)) (λ e. rw e (insert_after m x l, refl))

module _ (tr : Trace) where
  pub zero_first : (n : ℕ) → (r : List ℕ) × ((segments tr n).order ≡ 0 ∷ r)
  unfolding segments opened source
  zero_first zero = ([], refl)
  zero_first (suc n) =
      let before = zero_first n in
      by_test (is_access (tr.kind n))
      (λ e. rw e before)
      (λ e. rw (e, before.1) (insert_first (source (tr.kind n) (moves tr n) (segments tr n)) (suc (moves tr n)) before.0))

  -- So its place is 0.
  pub place_zero : (n : ℕ) → place 0 (segments tr n).order ≡ 0
  place_zero n = let first = zero_first n in rw first.1 (place_here 0 0 first.0 refl)
