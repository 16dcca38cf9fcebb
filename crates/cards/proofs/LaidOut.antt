-- How a record lies in memory: `laid_out`. The toolchain lays the fields of a struct one behind the other in the order of their declaration, so that a field that
-- is moved or widened is refused here. Assumes nothing.
use Prim.Native.Nat.{ℕ}
use mathlib.Core.Path.{◌≡◌, refl}
use mathlib.Core.List.{List, [], ◌∷◌}
use mir.Syntax.{w16}
use mir.Val.{Vals, vint, vstruct, vnil, vcons}
use prog.Memory.{size}
use Rattle.cards.specs.declared.Card.{Card}
use Rattle.cards.specs.Cards.{laid_out}
use Rattle.cards.proofs.Card.TheLaws as laws

-- The bytes of a record.
abbrev pub CARD_BYTES : ℕ
CARD_BYTES = 10

abbrev pub numbers : List ℕ → Vals
numbers [] = vnil
numbers (x ∷ xs) = vcons (vint w16 x) (numbers xs)

pub card_laid_out : (c : Card) → laws.lowered c ≡ vstruct (numbers (laid_out c))
card_laid_out c = refl

pub card_size : size laws.mir ≡ CARD_BYTES
card_size = refl
