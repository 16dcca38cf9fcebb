-- The cells after one access: one more in the table of its kind, the first position where there was none, and the last. Assumes nothing.
use Prim.Native.Nat.{ℕ, ◌+◌, ◌<◌}
use mathlib.Core.Path.{◌≡◌, ap, ◌∙◌}
use mathlib.Core.List.{List}
use mathlib.Core.Logic.{◌≢◌}
use native.Mathlib.Omega.{arith}
use lib.ListN.{length, get_or, set, length-set}
use lib.Seq.{get_or-set_same, get_or-set_other}
use Rattle.kinds.specs.Kinds.{index_of}
use Rattle.kinds.proofs.ByNumber.{index_few}
use Rattle.cards.specs.Tally.{FIRST, LAST, counts_of, earlier, touched_in, Touchable}

module _ (c : List ℕ) (kind l at : ℕ) (t : Touchable c kind l at) where
  abbrev counted : List ℕ
  counted = set c (counts_of kind + l) (get_or c (counts_of kind + l) 0 + 1)

  abbrev begun : List ℕ
  begun = set counted (FIRST + l) (earlier (get_or counted (FIRST + l) 0) at)

  length_counted : length counted ≡ length c
  length_counted = length-set c (counts_of kind + l) _

  length_begun : length begun ≡ length c
  length_begun = length-set counted (FIRST + l) _ ∙ length_counted

  pub touched_length : length (touched_in c kind l at) ≡ length c
  unfolding touched_in
  touched_length = length-set begun (LAST + l) _ ∙ length_begun

  pub touched_other : (j : ℕ) → j ≢ counts_of kind + l → j ≢ FIRST + l → j ≢ LAST + l → get_or (touched_in c kind l at) j 0 ≡ get_or c j 0
  unfolding touched_in
  touched_other j n₁ n₂ n₃ =
      get_or-set_other begun (LAST + l) j _ 0 n₃ ∙ (get_or-set_other counted (FIRST + l) j _ 0 n₂ ∙ get_or-set_other c (counts_of kind + l) j _ 0 n₁)

  low : index_of kind < 3
  low = index_few kind t.access

  pub touched_count : get_or (touched_in c kind l at) (counts_of kind + l) 0 ≡ get_or c (counts_of kind + l) 0 + 1
  unfolding touched_in
  touched_count =
      let few = low in
      let small = t.location in
      let room = t.room in
      get_or-set_other begun (LAST + l) (counts_of kind + l) _ 0 (omega arith)
      ∙ (get_or-set_other counted (FIRST + l) (counts_of kind + l) _ 0 (omega arith) ∙ get_or-set_same c (counts_of kind + l) _ 0 (omega arith))

  pub touched_first : get_or (touched_in c kind l at) (FIRST + l) 0 ≡ earlier (get_or c (FIRST + l) 0) at
  unfolding touched_in
  touched_first =
      let small = t.location in
      let room = t.room in
      let long = length_counted in
      get_or-set_other begun (LAST + l) (FIRST + l) _ 0 (omega arith)
      ∙ (get_or-set_same counted (FIRST + l) _ 0 (omega arith)
      ∙ ap (λ (z : ℕ). earlier z at) (get_or-set_other c (counts_of kind + l) (FIRST + l) _ 0 (omega arith)))

  pub touched_last : get_or (touched_in c kind l at) (LAST + l) 0 ≡ at + 1
  unfolding touched_in
  touched_last =
      let small = t.location in
      let room = t.room in
      let long = length_begun in
      get_or-set_same begun (LAST + l) _ 0 (omega arith)
