-- Plans (document 02, K4) by printing: a text is a plan's exactly if it is the print of that plan. Bytes are ASCII codes. Assumes nothing.
use Rattle.std.specs.Prelude.{ℕ, suc, ◌+◌, ◌≤◌, ◌<◌, max, ◌≡◌, List, [], ◌∷◌, ◌++◌, length, take, get_or}
use Rattle.trace.specs.Trace.{LOCATIONS}
use Rattle.numbers.specs.Decimal.{decimal}
use Rattle.plan.specs.declared.Access.{Access}
use Rattle.plan.specs.declared.Access.TheVariants.{Read, Write, Sum}
use Rattle.plan.specs.declared.Operator.{Operator}
use Rattle.plan.specs.declared.Operator.TheVariants.{Series, Parallel}

-- "S(G1,G2) and P(G1,G2) of source document 000" are `pair Series` and `pair Parallel`.
pub data Plan : Type 0 where
  leaf : Access → ℕ → Plan
  pair : Operator → Plan → Plan → Plan

-- "Leaves are r, w or s (sum)"
abbrev pub access_letter : Access → ℕ
access_letter Read = 114
access_letter Write = 119
access_letter Sum = 115

abbrev pub operator_letter : Operator → ℕ
operator_letter Series = 83
operator_letter Parallel = 80

-- "no spaces, no leading zeros, as in `S(w3,P(r3,r3))`"
abbrev pub print : Plan → List ℕ
print (leaf k l) = access_letter k ∷ decimal l
print (pair o a b) = operator_letter o ∷ (40 ∷ (print a ++ (44 ∷ (print b ++ (41 ∷ [])))))

-- "with a location 0 to 1,023"
abbrev pub InRange : Plan → Type 0
InRange (leaf k l) = l < LOCATIONS
InRange (pair o a b) = InRange a × InRange b

-- "a lone leaf has depth 0"
abbrev pub depth : Plan → ℕ
depth (leaf k l) = 0
depth (pair o a b) = suc (max (depth a) (depth b))

-- "A plan may nest up to 64 deep"
abbrev pub LEVELS : ℕ
LEVELS = 64

-- The text of a plan of the grammar that nests at most so deep.
pub record IsPlan (levels : ℕ) (text : List ℕ) (p : Plan) : Type 0 where
  pub in_range : InRange p
  pub low : depth p ≤ levels
  pub printed : text ≡ print p

-- The text of some such plan begins with these bytes.
pub record Begins (levels : ℕ) (bytes : List ℕ) : Type 0 where
  pub plan : Plan
  pub after : List ℕ
  pub is_plan : IsPlan levels (bytes ++ after) plan

-- Row 17, "first byte that can't continue a plan, or the plan's length if it breaks off": what stands before this position begins a plan, and with the byte at
-- it begins none, however deep; or no byte is left, and the text is no plan.
pub record StrayAt (text : List ℕ) (position : ℕ) : Type 0 where
  pub within : position ≤ length text
  pub before : Begins LEVELS (take position text)
  pub here : (levels : ℕ) → position < length text → Begins levels (take (position + 1) text) → ⊥
  pub at_the_end : (levels : ℕ) (p : Plan) → length text ≤ position → IsPlan levels text p → ⊥

-- Row 18, "an S or P that opens level 65": what stands before this position begins a plan; with the letter at it, it begins one that is 65 deep, and none that is
-- 64 deep.
pub record DeepAt (text : List ℕ) (position : ℕ) : Type 0 where
  pub within : position < length text
  pub letter : (o : Operator) × (get_or text position 0 ≡ operator_letter o)
  pub before : Begins LEVELS (take position text)
  pub deeper : Begins (suc LEVELS) (take (position + 1) text)
  pub here : Begins LEVELS (take (position + 1) text) → ⊥
