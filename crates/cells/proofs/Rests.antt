-- Cells past the tables, and past the first 12,288 and one for each event: what no function of the judge stores to. Assumes nothing.
use Prim.Native.Nat.{ℕ, ◌+◌, ◌≤◌, ◌<◌}
use mathlib.Core.Path.{◌≡◌, refl, sym, ap, ◌∙◌}
use mathlib.Core.List.{List, ◌++◌}
use native.Mathlib.Omega.{arith}
use lib.ListN.{length, set, replicate, drop, length-set, length-drop}
use lib.Seq.{get_or-set_other, get_or-drop, ext_get_or}
use Rattle.trace.specs.Trace.{WORKSPACE_CELLS}
use Rattle.trace.specs.Outcome.{cleared}
use Rattle.trace.proofs.Sizes.{Sized}
use Rattle.cells.specs.Cells.{zeroed, SameFrom, Rest, SameBeyond}
use Rattle.cells.proofs.Zeroed.{zeroed_cleared}

pub rest_refl : (n : ℕ) (c : List ℕ) → Rest n c c
rest_refl n c = record { long = refl; same = λ i h. refl }

pub rest_eq : (n : ℕ) (c d : List ℕ) → d ≡ c → Rest n c d
rest_eq n c d e = record { long = ap length e; same = λ i h. rw e }

pub rest_trans : {n : ℕ} {c d e : List ℕ} → Rest n c d → Rest n d e → Rest n c e
rest_trans r s = record { long = s.long ∙ r.long; same = λ i h. s.same i h ∙ r.same i h }

-- The same of the cells from a base on.
pub same_from_refl : (base : ℕ) (c : List ℕ) → SameFrom base c c
same_from_refl base c = record { long = refl; same = λ i h. refl }

pub same_from_trans : {base : ℕ} {c d e : List ℕ} → SameFrom base c d → SameFrom base d e → SameFrom base c e
same_from_trans r s = record { long = s.long ∙ r.long; same = λ i h. s.same i h ∙ r.same i h }

pub same_from_higher : {base higher : ℕ} {c d : List ℕ} → base ≤ higher → SameFrom base c d → SameFrom higher c d
same_from_higher le r = record { long = r.long; same = λ i h. r.same i (omega arith) }

pub same_beyond : {base : ℕ} {c d : List ℕ} → base ≤ WORKSPACE_CELLS → SameFrom base c d → SameBeyond c d
same_beyond low r = record { long = r.long; same = λ i h. r.same i (omega arith) }

-- Where those past the tables are, so are those past the events' cells.
pub rest_beyond : {n : ℕ} {c d : List ℕ} → SameBeyond c d → Rest n c d
rest_beyond r = record { long = r.long; same = λ i h. r.same i (omega arith) }

-- A store below them.
pub rest_set : {n : ℕ} {c d : List ℕ} (i v : ℕ) → i < WORKSPACE_CELLS + n → Rest n c d → Rest n c (set d i v)
rest_set {d = d} i v low r = record { long = simp length-set r.long; same = λ j h. get_or-set_other d i j v 0 (omega arith) ∙ r.same j h }

-- Cleared, they are all the same.
rest_zeroed : (n : ℕ) (c d : List ℕ) → Rest n c d → zeroed (WORKSPACE_CELLS + n) d ≡ zeroed (WORKSPACE_CELLS + n) c
unfolding zeroed
rest_zeroed n c d r =
    ap (λ (rest : List ℕ). replicate (WORKSPACE_CELLS + n) 0 ++ rest)
    (ext_get_or 0 (drop (WORKSPACE_CELLS + n) d) (drop (WORKSPACE_CELLS + n) c) (rw (length-drop, length-drop, r.long))
    (λ i h. get_or-drop (WORKSPACE_CELLS + n) d i 0 ∙ (r.same (WORKSPACE_CELLS + n + i) (omega arith) ∙ sym (get_or-drop (WORKSPACE_CELLS + n) c i 0))))

-- What `clear` leaves at the end of a call is what the documents ask for.
pub rest_cleared : {n : ℕ} {entry exit : List ℕ} (w : List ℕ) → Rest n entry exit → w ≡ zeroed (WORKSPACE_CELLS + n) exit → w ≡ cleared n entry
rest_cleared {n} {entry} {exit} w r e = e ∙ (rest_zeroed n entry exit r ∙ zeroed_cleared n entry)

-- The lent slices still have their sizes.
pub sized_same :
    {kinds tasks operands c d : List ℕ} {n : ℕ} → Sized kinds tasks operands c n → length d ≡ length c → Sized kinds tasks operands d n
sized_same s e =
    let room = s.room in
    record { of_kinds = s.of_kinds; of_tasks = s.of_tasks; of_operands = s.of_operands; few = s.few; room = omega arith }
