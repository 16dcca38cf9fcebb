-- Records of which a part is filled with cards: the part and the records past it. Assumes nothing.
use Prim.Native.Nat.{ℕ, zero, suc}
use mathlib.Core.Path.{◌≡◌, refl}
use mathlib.Core.List.{List, [], ◌∷◌, ◌++◌}
use lib.ListN.{take, drop}
use Rattle.std.proofs.Common.{append_assoc}
use Rattle.cards.specs.declared.Card.{Card}
use Rattle.cards.specs.Cards.{with_cards}

none_past : (k : ℕ) (records : List Card) → drop k (take k records) ≡ []
none_past zero records = refl
none_past (suc k) [] = refl
none_past (suc k) (record' ∷ records) = none_past k records

pub filled : (card : ℕ → Card) (k : ℕ) (records : List Card) → with_cards card k (take k records) ++ drop k records ≡ with_cards card k records
unfolding with_cards
filled card k records = rw (none_past k records, append_assoc) refl
