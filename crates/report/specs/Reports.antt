-- What the report of a race at t is: by the kinds, the operands and the events' numbers alone, and in the documents' terms. In every definition c is the
-- workspace's cells. Assumes nothing.
use Rattle.std.specs.Prelude.{ℕ, suc, ◌+◌, ◌<◌, ◌≡◌, Bool, true, false, not, ◌&&◌, ◌||◌, List, ◌++◌, eqb, leb, ltb, length, get_or, drop}
use Rattle.std.proofs.lemmas.List.Edits.{sets}
use Rattle.trace.specs.Trace.{Trace, is_access}
use Rattle.trace.specs.Graph.{graph_events}
use Rattle.trace.specs.Line.{halt_operand}
use Rattle.trace.specs.Race.{conflicting}
use Rattle.trace.specs.Orders.{positions, select}
use Rattle.trace.specs.Outcome.{in_d?, other?, schedule}
use Rattle.trace.specs.Demands.{IsRace}
use Rattle.cells.specs.Cells.{number_in}

-- The number of event p is no larger than that of event e: where the numbers tell paths and p stands before e, p reaches e.
abbrev pub reach_in : List ℕ → ℕ → ℕ → Bool
reach_in c e p = leb (number_in c p) (number_in c e)

-- It is larger.
abbrev pub not_reach_in : List ℕ → ℕ → ℕ → Bool
not_reach_in c e p = not (reach_in c e p)

-- ---- the partner

-- An event of kind j conflicts with an access of kind k to its location.
unfoldable pub kinds_conflict : ℕ → ℕ → Bool
kinds_conflict j k = is_access j && conflicting j k

-- Event p is a partner of the access t: it conflicts with t and, by the numbers, does not reach it.
unfoldable pub partner_in : List ℕ → List ℕ → List ℕ → ℕ → ℕ → Bool
partner_in kinds operands c t p =
    eqb (get_or operands p 0) (get_or operands t 0) && (kinds_conflict (get_or kinds p 0) (get_or kinds t 0) && not_reach_in c t p)

-- Event t is an access, and some event before it is a partner of it.
pub record Partnered (kinds operands c : List ℕ) (t : ℕ) : Type 0 where
  pub access : is_access (get_or kinds t 0) ≡ true
  pub other : ℕ
  pub earlier : other < t
  pub passed : partner_in kinds operands c t other ≡ true

-- The first of them is s.
pub record FirstPartner (kinds operands c : List ℕ) (t s : ℕ) : Type 0 where
  pub earlier : s < t
  pub passed : partner_in kinds operands c t s ≡ true
  pub none_before : (p : ℕ) → p < s → partner_in kinds operands c t p ≡ false

-- ---- the orders

-- By the numbers, event p is of D: it stands before s and reaches s, or it stands between s and t and reaches t.
unfoldable pub in_d_in : List ℕ → ℕ → ℕ → ℕ → Bool
in_d_in c s t p = (ltb p s && reach_in c s p) || (ltb s p && ltb p t && reach_in c t p)

-- The events of D, and the others up to t but s and t.
abbrev pub of_d : List ℕ → ℕ → ℕ → List ℕ
of_d c s t = select (in_d_in c s t) (positions (suc t))

abbrev pub others : List ℕ → ℕ → ℕ → List ℕ
others c s t = select (other? (in_d_in c s t) s t) (positions (suc t))

-- What an order buffer then holds: D, then x and y, which are s and t or t and s, then the others, and past t what it held.
abbrev pub order_in : List ℕ → ℕ → ℕ → ℕ → ℕ → List ℕ → List ℕ
order_in c s t x y buffer = schedule (in_d_in c s t) s t x y ++ drop (suc t) buffer

-- k events are parted: xs are written to `first` from cell `low` on and ys to `second` from cell `high` on, and r is past the former.
pub record Parted (first second first' second' : List ℕ) (low high k : ℕ) (xs ys : List ℕ) (r : ℕ) : Type 0 where
  pub past : r ≡ low + length xs
  pub all : length xs + length ys ≡ k
  pub in_first : first' ≡ sets first low xs
  pub in_second : second' ≡ sets second high ys

-- The first order is written, with s at r. Of `second` only cells up to t have changed.
pub record Arranged (c first second first' second' : List ℕ) (s t r : ℕ) : Type 0 where
  pub within : r < t
  pub place : r ≡ length (of_d c s t)
  pub in_first : first' ≡ order_in c s t s t first
  pub in_second : drop (suc t) second' ≡ drop (suc t) second

-- ---- the report

-- By the numbers: the partner is s, and the order buffers, which held b₁ and b₂, begin with the two orders.
pub record ReportedIn (kinds operands c b₁ a₁ b₂ a₂ : List ℕ) (s t : ℕ) : Type 0 where
  pub partner : FirstPartner kinds operands c t s
  pub first : a₁ ≡ order_in c s t s t b₁
  pub second : a₂ ≡ order_in c s t t s b₂

-- In the documents' terms.
pub record Reported (tr : Trace) (n : ℕ) (b₁ a₁ b₂ a₂ : List ℕ) (s t : ℕ) : Type 0 where
  pub pair : IsRace halt_operand tr n s t
  pub first : a₁ ≡ schedule (in_d? tr (graph_events halt_operand tr n) s t) s t s t ++ drop (suc t) b₁
  pub second : a₂ ≡ schedule (in_d? tr (graph_events halt_operand tr n) s t) s t t s ++ drop (suc t) b₂
