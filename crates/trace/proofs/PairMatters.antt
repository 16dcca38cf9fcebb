-- Why the pair of a race matters: between the two orders that demand 3 promises, what the location holds right after the pair differs where neither of the
-- pair reads (of two writes the last, of a write and a sum whether the sum stands after it), and what the read of the pair sees differs where one reads.
-- Assumes nothing.
use Prim.Native.Nat.{ℕ, suc, ◌+◌, ◌<◌, ◌≤◌}
use native.Mathlib.Omega.{arith}
use mathlib.Core.Path.{◌≡◌, refl, sym, ap, ◌∙◌}
use mathlib.Core.Logic.{◌≢◌, inl, inr}
use mathlib.Core.Bool.{true}
use mathlib.Core.List.{List, [], ◌∷◌, ◌++◌, append-nil}
use mathlib.Core.Option.{some, some-injective}
use lib.ListN.{length, get_or, take, drop}
use lib.Seq.{split_at, drop-cons, append_snoc, take-append-add, length-take-le, ext_get_or}
use borrow.Author.Tests.{eq-eqb, ne_eqb}
use Rattle.trace.specs.Trace.{Trace, READ}
use Rattle.trace.specs.Graph.{here}
use Rattle.trace.specs.Race.{Race}
use Rattle.trace.specs.Orders.{occurrences, Order, before, writes, sums, last_write, SumSince, HeldDiffers, SeenDiffers}
use Rattle.trace.specs.Demands.{Swapped, PairMatters}
use Rattle.trace.proofs.Tests.{either, same_or_not}
use Rattle.trace.proofs.Lists.{one_if_same, one_if_other, occurrences_append, before_append, latest_passed, latest_append_passed}
use Rattle.trace.proofs.Lists.{place_lt_length, place_append_left, place_append_right}
use Rattle.trace.proofs.OrderFacts.{order_at_most_once, test_writes, test_sums, sum_no_write}
use Rattle.trace.proofs.Conflicts.{Changes, ConflictCase, first_reads, second_reads, both_write, first_sums, second_sums, conflict_cases}
use Rattle.trace.proofs.WitnessOrders.{append_swapped, append_swapped_at}

-- ---- before the pair D, after it the rest

-- What changes a location does not read it.
change_no_read : (tr : Trace) (l p : ℕ) → Changes tr l p → tr.kind p ≢ READ
change_no_read tr l p (inl write) read = omega (arith, ((test_writes tr l p).0 write).0)
change_no_read tr l p (inr sum) read = omega (arith, ((test_sums tr l p).0 sum).0)

-- Where neither of the pair reads, what their location holds decides.
neither_reads :
    {at : ℕ} (tr : Trace) (s t : ℕ) (o₁ o₂ : List ℕ) → Changes tr (tr.operand s) s → Changes tr (tr.operand s) t
    → HeldDiffers tr (take (at + 2) o₁) (take (at + 2) o₂) (tr.operand s) → PairMatters tr s t at o₁ o₂
neither_reads tr s t o₁ o₂ change-s change-t differs =
    record {
      held_differs = λ ks kt. differs;
      seen_differs = λ r w read.
          absurd
          (either w (λ e. change_no_read tr (tr.operand s) s change-s (rw e at read))
          (λ e. change_no_read tr (tr.operand s) t change-t (rw e at read)));
    }

-- Either way round.
differs_sym : (tr : Trace) (o o' : List ℕ) (l : ℕ) → HeldDiffers tr o o' l → HeldDiffers tr o' o l
differs_sym tr o o' l (inl d) = inl (λ e. d (sym e))
differs_sym tr o o' l (inr d) = inr (d.0, λ m. d.1 (m.1, m.0))

-- A sum at the end of a list is in the set of sums.
sum_last : (tr : Trace) (l u : ℕ) (xs : List ℕ) → sums tr l u ≡ true → occurrences u xs ≡ 0 → SumSince tr (xs ++ (u ∷ [])) l u
sum_last tr l u xs sum fresh =
    record {
      sum = sum;
      listed = omega (arith, occurrences_append u xs (u ∷ []), one_if_same u u refl);
      after_writes = λ w write listed.
          let other : u ≢ w = λ e. sum_no_write tr l u w sum write (sym e) in
          let in-xs : 0 < occurrences w xs = omega (arith, occurrences_append w xs (u ∷ []), one_if_other u w other) in
          omega
          (arith, place_append_left w xs (u ∷ []) in-xs, place_lt_length w xs in-xs, place_append_right u xs (u ∷ []) fresh);
    }

module _ (D rest : List ℕ) where
  before_first : (a b : ℕ) → occurrences a D ≡ 0 → before a (D ++ (a ∷ b ∷ rest)) ≡ D
  before_first a b c = before_append a D (a ∷ b ∷ rest) c ∙ rw (eq-eqb a a refl) (append-nil D)

  before_second : (a b : ℕ) → a ≢ b → occurrences b D ≡ 0 → before b (D ++ (a ∷ b ∷ rest)) ≡ D ++ (a ∷ [])
  before_second a b other c = before_append b D (a ∷ b ∷ rest) c ∙ rw (ne_eqb a b other, eq-eqb b b refl)

  -- With a change of the location at the end of D it holds something different.
  change_differs : (tr : Trace) (l w : ℕ) → occurrences w D ≡ 0 → Changes tr l w → HeldDiffers tr D (D ++ (w ∷ [])) l
  change_differs tr l w fresh (inl write) =
      inl (λ same. omega (arith, (latest_passed (writes tr l) D w (same ∙ latest_append_passed (writes tr l) D w write)).1))
  change_differs tr l w fresh (inr sum) =
      inr (w, λ same. let listed = (same.1 (sum_last tr l w D sum fresh)).listed in omega arith)

  -- So a read r sees something different where a change w of its location stands right before it, and where it stands right after it.
  read_differs :
      (tr : Trace) (l r w : ℕ) → w ≢ r → occurrences r D ≡ 0 → occurrences w D ≡ 0 → tr.operand r ≡ l → Changes tr l w
      → SeenDiffers tr (D ++ (r ∷ w ∷ rest)) (D ++ (w ∷ r ∷ rest)) r
  read_differs tr l r w other cr cw location change =
      rw (before_first r w cr, before_second w r other cr, location) (change_differs tr l w cw change)

  -- The entries up to the pair, it included.
  with_pair : (a b : ℕ) → take (length D + 2) (D ++ (a ∷ b ∷ rest)) ≡ (D ++ (a ∷ [])) ++ (b ∷ [])
  with_pair a b = take-append-add D (a ∷ b ∷ rest) 2 ∙ sym (append_snoc D a (b ∷ []))

  -- Right after a pair whose second event is a write, that write is the last;
  last_of_pair : (tr : Trace) (l a b : ℕ) → writes tr l b ≡ true → last_write tr (take (length D + 2) (D ++ (a ∷ b ∷ rest))) l ≡ some b
  last_of_pair tr l a b write =
      ap (λ (z : List ℕ). last_write tr z l) (with_pair a b) ∙ latest_append_passed (writes tr l) (D ++ (a ∷ [])) b write

  -- so of two writes the last one differs,
  writes_differ :
      (tr : Trace) (l s t : ℕ) → s ≢ t → writes tr l s ≡ true → writes tr l t ≡ true
      → HeldDiffers tr (take (length D + 2) (D ++ (s ∷ t ∷ rest))) (take (length D + 2) (D ++ (t ∷ s ∷ rest))) l
  writes_differ tr l s t other write-s write-t =
      inl
      (λ same. other (sym (some-injective t s (sym (last_of_pair tr l s t write-t) ∙ same ∙ last_of_pair tr l t s write-s))))

  -- and a sum is in the set only where it stands after the write.
  sum_differs :
      (tr : Trace) (l w u : ℕ) → occurrences w D ≡ 0 → occurrences u D ≡ 0 → writes tr l w ≡ true → sums tr l u ≡ true
      → HeldDiffers tr (take (length D + 2) (D ++ (w ∷ u ∷ rest))) (take (length D + 2) (D ++ (u ∷ w ∷ rest))) l
  sum_differs tr l w u cw cu write sum =
      let other = sum_no_write tr l u w sum write in
      let fresh : occurrences u (D ++ (w ∷ [])) ≡ 0 = omega (arith, occurrences_append u D (w ∷ []), one_if_other w u other) in
      let fresh' : occurrences w (D ++ (u ∷ [])) ≡ 0 =
      omega (arith, occurrences_append w D (u ∷ []), one_if_other u w (λ e. other (sym e))) in
      let in-D : 0 < occurrences u (D ++ (u ∷ [])) = omega (arith, occurrences_append u D (u ∷ []), one_if_same u u refl) in
      rw (with_pair w u, with_pair u w)
      (inr (
        u,
        λ same.
            let since = same.0 (sum_last tr l u (D ++ (w ∷ [])) sum fresh) in
            let listed = occurrences_append w (D ++ (u ∷ [])) (w ∷ []) in
            let after = since.after_writes w write (omega (arith, one_if_same w w refl)) in
            omega (
              arith,
              place_append_right w (D ++ (u ∷ [])) (w ∷ []) fresh',
              place_append_left u (D ++ (u ∷ [])) (w ∷ []) in-D,
              place_lt_length u (D ++ (u ∷ [])) in-D,
            ),
      ))

  by_case :
      (tr : Trace) (s t : ℕ) → s ≢ t → occurrences s D ≡ 0 → occurrences t D ≡ 0 → tr.operand t ≡ tr.operand s
      → ConflictCase tr (tr.operand s) s t → PairMatters tr s t (length D) (D ++ (s ∷ t ∷ rest)) (D ++ (t ∷ s ∷ rest))
  by_case tr s t other cs ct location (first_reads read-s change-t) =
      record {
        held_differs = λ ks kt. absurd (ks read-s);
        seen_differs = λ r w read.
            either w (λ e. rw e (read_differs tr (tr.operand s) s t (λ q. other (sym q)) cs ct refl change-t))
            (λ e. absurd (change_no_read tr (tr.operand s) t change-t (rw e at read)));
      }
  by_case tr s t other cs ct location (second_reads change-s read-t) =
      record {
        held_differs = λ ks kt. absurd (kt read-t);
        seen_differs = λ r w read.
            either w (λ e. absurd (change_no_read tr (tr.operand s) s change-s (rw e at read)))
            (λ e. rw e (differs_sym tr _ _ _ (read_differs tr (tr.operand s) t s other ct cs location change-s)));
      }
  by_case tr s t other cs ct location (both_write write-s write-t) =
      neither_reads tr s t (D ++ (s ∷ t ∷ rest)) (D ++ (t ∷ s ∷ rest)) (inl write-s) (inl write-t)
      (writes_differ tr (tr.operand s) s t other write-s write-t)
  by_case tr s t other cs ct location (first_sums sum-s write-t) =
      neither_reads tr s t (D ++ (s ∷ t ∷ rest)) (D ++ (t ∷ s ∷ rest)) (inr sum-s) (inl write-t)
      (differs_sym tr _ _ _ (sum_differs tr (tr.operand s) t s ct cs write-t sum-s))
  by_case tr s t other cs ct location (second_sums write-s sum-t) =
      neither_reads tr s t (D ++ (s ∷ t ∷ rest)) (D ++ (t ∷ s ∷ rest)) (inl write-s) (inr sum-t)
      (sum_differs tr (tr.operand s) s t cs ct write-s sum-t)

-- ---- two lists that differ in the places of s and t have this form

record Form (s t at : ℕ) (o₁ o₂ : List ℕ) : Type 0 where
  D : List ℕ
  rest : List ℕ
  pair_place : length D ≡ at
  first : o₁ ≡ D ++ (s ∷ t ∷ rest)
  second : o₂ ≡ D ++ (t ∷ s ∷ rest)

-- The second list follows from the first, the pair and its place.
swapped_unique :
    (s t : ℕ) (o₁ o₁' o₂ o₂' : List ℕ) (swap : Swapped s t o₁ o₂) (swap' : Swapped s t o₁' o₂') → o₁ ≡ o₁' → swap.at ≡ swap'.at
    → o₂ ≡ o₂'
swapped_unique s t o₁ o₁' o₂ o₂' swap swap' same place =
    ext_get_or 0 o₂ o₂' (sym swap.one_length ∙ ap length same ∙ swap'.one_length)
    (λ i h.
    either (same_or_not i swap.at)
    (λ e. at_place i swap.at swap'.at t e place swap.second_t swap'.second_t)
    (λ d.
    either (same_or_not i (suc swap.at))
    (λ e. at_place i (suc swap.at) (suc swap'.at) s e (ap suc place) swap.second_s swap'.second_s)
    (λ d'.
    sym (swap.elsewhere i d d')
    ∙ ap (λ (z : List ℕ). get_or z i 0) same
    ∙ swap'.elsewhere i (λ e. d (e ∙ sym place)) (λ e. d' (e ∙ ap suc (sym place))))))
  where
    at_place : (i j k x : ℕ) → i ≡ j → j ≡ k → get_or o₂ j 0 ≡ x → get_or o₂' k 0 ≡ x → get_or o₂ i 0 ≡ get_or o₂' i 0
    at_place i j k x ij jk e e' = ap (λ (z : ℕ). get_or o₂ z 0) ij ∙ e ∙ sym e' ∙ ap (λ (z : ℕ). get_or o₂' z 0) (sym (ij ∙ jk))

swapped_form : (s t : ℕ) (o₁ o₂ : List ℕ) (swap : Swapped s t o₁ o₂) → Form s t swap.at o₁ o₂
swapped_form s t o₁ o₂ swap =
    let at : ℕ = swap.at in
    let fits : suc at < length o₁ = swap.fits in
    let D : List ℕ = take at o₁ in
    let rest : List ℕ = drop (suc (suc at)) o₁ in
    let pair_place : length D ≡ at = length-take-le at o₁ (omega arith) in
    let tail : drop (suc at) o₁ ≡ t ∷ rest = drop-cons o₁ (suc at) 0 fits ∙ rw swap.first_t in
    let first : o₁ ≡ D ++ (s ∷ t ∷ rest) = split_at o₁ at 0 (omega arith) ∙ rw (swap.first_s, tail) in
    let second : o₂ ≡ D ++ (t ∷ s ∷ rest) =
    swapped_unique s t o₁ (D ++ (s ∷ t ∷ rest)) o₂ (D ++ (t ∷ s ∷ rest)) swap (append_swapped s t D rest) first
    (sym (append_swapped_at s t D rest ∙ pair_place)) in
    record { D = D; rest = rest; pair_place = pair_place; first = first; second = second }

form_matters :
    (tr : Trace) (graph s t m at : ℕ) (o₁ o₂ : List ℕ) → Race tr graph s t → Order m o₁ → Form s t at o₁ o₂ → PairMatters tr s t at o₁ o₂
form_matters tr graph s t m at o₁ o₂ racing order form =
    let other : s ≢ t = λ e. racing.not_forth (here racing.conflict.second_event e) in
    let pair : List ℕ = s ∷ t ∷ form.rest in
    let once : (p : ℕ) → occurrences p form.D + occurrences p pair ≤ 1 =
    λ p.
    omega (arith, order_at_most_once m o₁ order p, ap (occurrences p) form.first, occurrences_append p form.D pair) in
    rw (form.first, form.second, ← form.pair_place)
    (by_case form.D form.rest tr s t other (omega (arith, once s, one_if_same s s refl))
    (omega (arith, once t, one_if_same t t refl)) (sym racing.conflict.one_location) (conflict_cases tr graph racing.conflict))

-- For a race s t and two orders as demand 3 promises them, the second the first with the pair swapped.
pub pair_matters :
    (tr : Trace) (graph s t m : ℕ) (o₁ o₂ : List ℕ) → Race tr graph s t → Order m o₁ → (swap : Swapped s t o₁ o₂)
    → PairMatters tr s t swap.at o₁ o₂
pair_matters tr graph s t m o₁ o₂ racing order swap =
    form_matters tr graph s t m swap.at o₁ o₂ racing order (swapped_form s t o₁ o₂ swap)
