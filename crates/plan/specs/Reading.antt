-- The reader of plans, left to right: what a plan begins with, then its operands. `Plans` says what is right; the theorems of `proofs/Accepts.antt` and
-- `proofs/Refuses.antt` say that the reader takes exactly that, and where it turns a text back. `at` is the position of the list's first byte. Assumes nothing.
use Rattle.std.specs.Prelude.{ℕ, zero, suc, ◌+◌, ◌-◌, cond, List, [], ◌∷◌, eqb, length, Some, None}
use Rattle.std.specs.Prelude as code
use Rattle.std.proofs.Math.Option.{Option, none, some}
use Rattle.numbers.specs.Options.{maybe}
use Rattle.numbers.specs.Reading.{number}
use Rattle.plan.specs.Plans.{Plan, leaf, pair, LEVELS}
use Rattle.plan.specs.declared.Access.{Access}
use Rattle.plan.specs.declared.Access.TheVariants.{Read, Write, Sum}
use Rattle.plan.specs.declared.Operator.{Operator}
use Rattle.plan.specs.declared.Operator.TheVariants.{Series, Parallel}
use Rattle.plan.specs.declared.Letter.{Letter}
use Rattle.plan.specs.declared.Letter.TheVariants.{Leaf, Joint}

unfoldable pub letter_of : ℕ → code.Option Letter
letter_of b =
    cond (eqb b 114) (Some (Leaf Read))
    (cond (eqb b 119) (Some (Leaf Write))
    (cond (eqb b 115) (Some (Leaf Sum))
    (cond (eqb b 83) (Some (Joint Series))
    (cond (eqb b 80) (Some (Joint Parallel)) None))))

-- "a location 0 to 1,023"
abbrev pub LAST_LOCATION : ℕ
LAST_LOCATION = 1023

-- The bytes after the byte w, where that stands first.
abbrev pub past : ℕ → List ℕ → Option (List ℕ)
past w [] = none
past w (b ∷ s) = cond (eqb b w) (some s) none

-- What a plan begins with: a stop at a position, a leaf with the position and the bytes after it, or an operator with the bytes after its bracket.
pub data Opened : Type 0 where
  stops : ℕ → ℕ → Opened
  lone : Access → ℕ → ℕ → List ℕ → Opened
  inside : Operator → List ℕ → Opened

-- 18 is "an S or P that opens level 65", at the letter.
abbrev pub begun : code.Option Letter → ℕ → ℕ → List ℕ → Opened
begun (Some (Leaf k)) room at s =
    maybe (number LAST_LOCATION s) (stops 17 (at + 1)) (λ n. lone k n.0 (at + 1 + (length s - length n.1)) n.1)
begun (Some (Joint o)) zero at s = stops 18 at
begun (Some (Joint o)) (suc room) at s = maybe (past 40 s) (stops 17 (at + 1)) (λ rest. inside o rest)
begun None room at s = stops 17 at

abbrev pub opening : ℕ → ℕ → List ℕ → Opened
opening room at [] = stops 17 at
opening room at (b ∷ s) = begun (letter_of b) room at s

-- A plan, the position after it and the bytes from there on; or a refusal with its number and position.
pub data Reading : Type 0 where
  read : Plan → ℕ → List ℕ → Reading
  refused : ℕ → ℕ → Reading

infixr 20 ◌followed◌
abbrev pub ◌followed◌ : Reading → (Plan → ℕ → List ℕ → Reading) → Reading
◌followed◌ (read p at s) next = next p at s
◌followed◌ (refused number at) next = refused number at

abbrev pub resumed : Opened → (Operator → List ℕ → Reading) → Reading
resumed (stops number at) next = refused number at
resumed (lone k v end s) next = read (leaf k v) end s
resumed (inside o s) next = next o s

abbrev pub closing : Operator → Plan → Plan → ℕ → List ℕ → Reading
closing o a b at s = maybe (past 41 s) (refused 17 at) (λ rest. read (pair o a b) (at + 1) rest)

-- The operands, each read by `operand`.
abbrev pub operands : (ℕ → List ℕ → Reading) → Operator → ℕ → List ℕ → Reading
operands operand o at s =
    operand at s followed λ a comma s₁.
    maybe (past 44 s₁) (refused 17 comma) (λ s₂. operand (comma + 1) s₂ followed λ b close s₃. closing o a b close s₃)

-- The plan that the bytes begin with, in which S and P may nest `room` deep.
abbrev pub plan_at : ℕ → ℕ → List ℕ → Reading
plan_at zero at s = resumed (opening zero at s) (λ o rest. refused 18 at)
plan_at (suc room) at s = resumed (opening (suc room) at s) (λ o rest. operands (λ a z. plan_at room a z) o (at + 2) rest)

-- A whole text: its plan, or a refusal with its number and position.
pub data Whole : Type 0 where
  accepted : Plan → Whole
  rejected : ℕ → ℕ → Whole

abbrev pub ended : Plan → ℕ → List ℕ → Whole
ended p at [] = accepted p
ended p at (b ∷ s) = rejected 17 at

abbrev pub whole_of : Reading → Whole
whole_of (read p at s) = ended p at s
whole_of (refused number at) = rejected number at

unfoldable pub whole : List ℕ → Whole
whole text = whole_of (plan_at LEVELS 0 text)
