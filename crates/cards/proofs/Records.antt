-- Laws of `with_cards`, the records of which the first k are cards. Assumes nothing.
use Prim.Native.Nat.{ℕ, zero, suc, ◌+◌, ◌≤◌, ◌<◌}
use mathlib.Core.Path.{◌≡◌, refl, sym, ap, ◌∙◌}
use mathlib.Core.List.{List, [], ◌∷◌, ◌++◌, map}
use native.Mathlib.Omega.{arith}
use lib.ListN.{length, set, drop, get_or, length-map, length-append, length-drop}
use lib.Seq.{drop-cons, append_snoc, set_at, get_or-set_same, get_or-set_other}
use Rattle.trace.specs.Orders.{count_up, positions}
use Rattle.trace.proofs.Tests.{either, last_or_below}
use Rattle.trace.proofs.Lists.{length_count_up, positions_snoc}
use Rattle.cards.specs.declared.Card.{Card}
use Rattle.cards.specs.Cards.{with_cards}
use Rattle.cards.specs.Demands.{blank}

map_snoc : (card : ℕ → Card) (xs : List ℕ) (x : ℕ) → map card (xs ++ (x ∷ [])) ≡ map card xs ++ (card x ∷ [])
map_snoc card [] x = refl
map_snoc card (y ∷ xs) x = ap {B = List Card} (λ (z : List Card). card y ∷ z) (map_snoc card xs x)

module _ (card : ℕ → Card) where
  length_cards : (k : ℕ) → length (map card (positions k)) ≡ k
  length_cards k = length-map (positions k) card ∙ length_count_up 0 k

  pub with_none : (records : List Card) → with_cards card 0 records ≡ records
  unfolding with_cards
  with_none records = refl

  pub with_length : (k : ℕ) (records : List Card) → k ≤ length records → length (with_cards card k records) ≡ length records
  unfolding with_cards
  with_length k records room = let n = length_cards k in rw (length-append, n, length-drop) (omega arith)

  -- A store to the next record.
  pub with_more : (k : ℕ) (records : List Card) → k < length records → set (with_cards card k records) k (card k) ≡ with_cards card (suc k) records
  unfolding with_cards
  with_more k records room =
      let front : List Card = map card (positions k) in
      ap (λ (z : List Card). set (front ++ z) k (card k)) (drop-cons records k blank room)
      ∙ (set_at front (get_or records k blank) (drop (suc k) records) (card k) k (length_cards k)
      ∙ (sym (append_snoc front (card k) (drop (suc k) records))
      ∙ ap (λ (z : List Card). z ++ drop (suc k) records) (sym (ap (map card) (positions_snoc k) ∙ map_snoc card (positions k) k))))

  -- Record by record.
  pub with_at : (k : ℕ) (records : List Card) → k ≤ length records → (l : ℕ) → l < k → get_or (with_cards card k records) l blank ≡ card l
  with_at zero records room l h = absurd (omega arith)
  with_at (suc k) records room l h =
      let long = with_length k records (omega arith) in
      rw (← with_more k records (omega arith))
      (either (last_or_below l k h)
      (λ e. rw e (get_or-set_same (with_cards card k records) k (card k) blank (omega arith)))
      (λ i.
      get_or-set_other (with_cards card k records) k l (card k) blank (omega arith) ∙ with_at k records (omega arith) l i))

  pub with_past : (k : ℕ) (records : List Card) → k ≤ length records → (l : ℕ) → k ≤ l → get_or (with_cards card k records) l blank ≡ get_or records l blank
  with_past zero records room l h = ap (λ (z : List Card). get_or z l blank) (with_none records)
  with_past (suc k) records room l h =
      rw (← with_more k records (omega arith))
      (get_or-set_other (with_cards card k records) k l (card k) blank (omega arith) ∙ with_past k records (omega arith) l (omega arith))

-- Cards that are the same.
module _ (card card' : ℕ → Card) where
  same_up : (k m : ℕ) → ((i : ℕ) → k ≤ i → i < k + m → card i ≡ card' i) → map card (count_up k m) ≡ map card' (count_up k m)
  same_up k zero h = refl
  same_up k (suc m) h = rw (h k (omega arith) (omega arith), same_up (suc k) m (λ i low high. h i (omega arith) (omega arith)))

  pub with_same : (k : ℕ) (records : List Card) → ((i : ℕ) → i < k → card i ≡ card' i) → with_cards card k records ≡ with_cards card' k records
  unfolding with_cards
  with_same k records h = rw (same_up 0 k (λ i low high. h i (omega arith)))
