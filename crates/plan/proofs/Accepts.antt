-- THE READER ACCEPTS EXACTLY THE PLANS (`accepts_exactly`): a text is read as the plan p exactly if it is the print of p, p nests at most 64 deep, and its
-- locations are at most 1,023. So a text is the print of one plan at most (`one_plan`). Assumes nothing.
use Prim.Native.Nat.{ℕ, zero, suc, ◌+◌, ◌-◌}
use native.Mathlib.Omega.{arith}
use mathlib.Core.Path.{◌≡◌, refl, ◌∙◌}
use mathlib.Core.List.{List, [], ◌∷◌, ◌++◌, append-nil}
use mathlib.Core.Logic.{◌↔◌}
use mathlib.Core.Option.{none, some}
use lib.ListN.{length}
use Rattle.numbers.specs.Decimal.{decimal}
use Rattle.numbers.specs.Reading.{digit}
use Rattle.numbers.proofs.Decimal.{first, extended_stops, number_whole}
use Rattle.numbers.proofs.Tokens.{found, nothing}
use Rattle.plan.specs.Plans.{Plan, leaf, pair, print, access_letter, LEVELS, IsPlan}
use Rattle.plan.specs.Reading.{LAST_LOCATION, opening, lone, Reading, read, refused, plan_at, accepted, whole_of, whole}
use Rattle.plan.specs.declared.Operator.{Operator}
use Rattle.plan.proofs.Spelling.{letter_access, letter_operator}
use Rattle.plan.proofs.Stops.{Right, plan_right, right_plan, Ends, leaf_ends, pair_ends, Reads, printed, reads, joined, plan_lone}

-- ---- the operands of a plan

left_right : {room : ℕ} (o : Operator) (a b : Plan) → Right (suc room) (pair o a b) → Right room a
left_right o a b r = let l = r.low in record { in_range = r.in_range.0; low = omega arith }

right_right : {room : ℕ} (o : Operator) (a b : Plan) → Right (suc room) (pair o a b) → Right room b
right_right o a b r = let l = r.low in record { in_range = r.in_range.1; low = omega arith }

-- ---- what is printed is read

pub ends_other : (p : Plan) (b : ℕ) → digit b ≡ none → Ends p (some b)
ends_other (leaf k v) b e = leaf_ends (found (extended_stops LAST_LOCATION v b e))
ends_other (pair o a c) b e = pair_ends

pub ends_last : (p : Plan) → Ends p none
ends_last (leaf k v) = leaf_ends nothing
ends_last (pair o a b) = pair_ends

pub comma_no_digit : digit 44 ≡ none
unfolding digit
comma_no_digit = refl

pub close_no_digit : digit 41 ≡ none
unfolding digit
close_no_digit = refl

pub accepts : (p : Plan) (room at : ℕ) (rest : List ℕ) → Right room p → Ends p (first rest) → (end : ℕ) × (plan_at room at (print p ++ rest) ≡ read p end rest)
accepts (leaf k v) room at rest r (leaf_ends u) =
    let h = r.in_range in
    let n = number_whole LAST_LOCATION (omega arith) (omega arith) v rest (omega arith) u in
    let end = at + 1 + (length (decimal v ++ rest) - length rest) in
    let e : lone k v end rest ≡ opening room at (access_letter k ∷ (decimal v ++ rest)) = rw (letter_access k, n) in
    (end, plan_lone room at (access_letter k ∷ (decimal v ++ rest)) k v end rest e)
accepts (pair o a b) zero at rest r e = absurd (let l = r.low in omega arith)
accepts (pair o a b) (suc room) at rest r e =
    let i = accepts a room (at + 2) (44 ∷ (print b ++ (41 ∷ rest))) (left_right o a b r) (ends_other a 44 comma_no_digit) in
    let j = accepts b room (i.0 + 1) (41 ∷ rest) (right_right o a b r) (ends_other b 41 close_no_digit) in
    (j.0 + 1, rw (← joined (print a) (print b) rest, letter_operator o, i.1, j.1))

-- A plan's own text is read to its end.
pub own_text : (room : ℕ) (p : Plan) → Right room p → (end : ℕ) × (plan_at room 0 (print p) ≡ read p end [])
own_text room p r = let a = accepts p room 0 [] r (ends_last p) in (a.0, rw (append-nil (print p)) at a.1)

-- ---- a whole text

whole_read : (text : List ℕ) (p : Plan) (x : Reading) → Reads LEVELS 0 text x → whole_of x ≡ accepted p → IsPlan LEVELS text p
whole_read text p (read q end []) (printed q' e' r' r u i) h =
    let same : q ≡ p = cc in
    rw (← same) (right_plan r (i.bytes ∙ append-nil (print q)))
whole_read text p (read q end (b ∷ s)) r h = let z : ◌≡◌ {A = ℕ} 0 1 = cc in absurd (omega arith)
whole_read text p (refused n q) r h = let z : ◌≡◌ {A = ℕ} 0 1 = cc in absurd (omega arith)

pub accepts_exactly : (text : List ℕ) (p : Plan) → (whole text ≡ accepted p) ↔ IsPlan LEVELS text p
unfolding whole
accepts_exactly text p = (
  λ h. whole_read text p (plan_at LEVELS 0 text) (reads LEVELS 0 text) h,
  λ i. rw (i.printed, (own_text LEVELS p (plan_right i)).1),
)

pub one_plan : (text : List ℕ) (p q : Plan) → IsPlan LEVELS text p → IsPlan LEVELS text q → p ≡ q
one_plan text p q i j =
    let a = (accepts_exactly text p).1 i in
    let b = (accepts_exactly text q).1 j in
    cc
