-- The second order of the segments in the cells of a workspace, one cell for each segment from cell `base` on: first links, and after one walk ranks.
-- Putting a segment right after another stores two cells (`link_in`); the walk overwrites each link by its segment's rank once it has been read
-- (`rank_in`), so no other cell is needed. Both hold of every trace. Assumes nothing.
use Prim.Native.Nat.{ℕ, zero, suc, ◌+◌, ◌<◌, ◌≤◌}
use mathlib.Core.Path.{◌≡◌, refl, sym, ap, subst, ◌∙◌}
use mathlib.Core.Bool.{true, false, cond}
use mathlib.Core.List.{List, [], ◌∷◌}
use mathlib.Core.Logic.{◌≢◌}
use native.Mathlib.Omega.{arith}
use lib.Dec.{eqb}
use lib.ListN.{length, get_or, set, length-set}
use lib.Seq.{get_or-set_same, get_or-set_other}
use borrow.Author.Tests.{eqb-true, eqb-false, ne_eqb}
use Rattle.trace.specs.Trace.{Trace, is_access}
use Rattle.trace.specs.Orders.{occurrences, place}
use Rattle.segments.specs.Segments.{moves, insert_after, source, opened, segments}
use Rattle.trace.proofs.Tests.{by_test, either, same_or_not}
use Rattle.trace.proofs.Lists.{one_if_same, one_if_other, place_here, place_there}
use Rattle.trace.proofs.OrderFacts.{order_at_most_once, order_inside}
use Rattle.segments.proofs.SegmentFacts.{source_old, segments_order}

-- ---- links

-- From this link on, the links lead through this list to its end. (0 ends it: segment 0 comes first, so no link leads to it.)
abbrev pub Chain : (ℕ → ℕ) → ℕ → List ℕ → Type 0
Chain next link [] = link ≡ 0
Chain next link (y ∷ l) = (link ≡ y) × Chain next (next y) l

-- Only the links of the entries count.
pub chain_frame : (next next' : ℕ → ℕ) (link : ℕ) (l : List ℕ) → ((y : ℕ) → 0 < occurrences y l → next' y ≡ next y) → Chain next link l →
    Chain next' link l
chain_frame next next' link [] f c = c
chain_frame next next' link (y ∷ l) f c = (
  c.0,
  subst (λ (z : ℕ). Chain next' z l) (sym (f y (omega (arith, one_if_same y y refl))))
      (chain_frame next next' (next y) l (λ z i. f z (omega arith)) c.1),
)

-- Two links make x the entry right after m.
pub chain_insert : (next next' : ℕ → ℕ) (m x : ℕ) → next' m ≡ x → next' x ≡ next m → ((y : ℕ) → y ≢ m → y ≢ x → next' y ≡ next y) →
    (link : ℕ) (l : List ℕ) → 0 < occurrences m l → ((q : ℕ) → occurrences q l ≤ 1) → occurrences x l ≡ 0 → Chain next link l →
    Chain next' link (insert_after m x l)
unfolding insert_after
chain_insert next next' m x at-m at_x others link [] h once new c = absurd (omega arith)
chain_insert next next' m x at-m at_x others link (y ∷ l) h once new c =
    by_test (eqb y m)
    (λ e.
    let q = eqb-true y m e in
    let gone : occurrences m l ≡ 0 = omega (arith, once m, one_if_same y m q) in
    let rest = chain_frame next next' (next y) l
    (λ z i. others z
    (λ a. let i' : 0 < occurrences m l = rw a at i in omega arith)
    (λ a. let i' : 0 < occurrences x l = rw a at i in omega arith)) c.1 in
    rw e (c.0, (ap next' q ∙ at-m, subst (λ (z : ℕ). Chain next' z l) (ap next q ∙ sym at_x) rest)))
    (λ e.
    let d = eqb-false y m e in
    let d' : y ≢ x = λ a. omega (arith, one_if_same y x a) in
    let rest = chain_insert next next' m x at-m at_x others (next y) l (omega (arith, one_if_other y m d)) (λ q. omega (arith, once q)) (omega arith)
    c.1 in
    rw e (c.0, subst (λ (z : ℕ). Chain next' z (insert_after m x l)) (sym (others y d d')) rest))

-- ---- the models

-- Segment x put right after segment m.
unfoldable pub link_in : ℕ → ℕ → ℕ → List ℕ → List ℕ
link_in base m x ws = set (set ws (base + x) (get_or ws (base + m) 0)) (base + m) x

-- The walk of at most `fuel` segments from g on, with i the rank of g.
unfoldable pub rank_in : ℕ → ℕ → ℕ → ℕ → List ℕ → List ℕ
rank_in base zero g i ws = ws
rank_in base (suc fuel) g i ws =
    cond (eqb (get_or ws (base + g) 0) 0) (set ws (base + g) i) (rank_in base fuel (get_or ws (base + g) 0) (suc i) (set ws (base + g) i))

-- The links that the cells hold.
abbrev pub link_at : ℕ → List ℕ → ℕ → ℕ
link_at base ws p = get_or ws (base + p) 0

-- ---- the links

pub link_in_length : (base m x : ℕ) (ws : List ℕ) → length (link_in base m x ws) ≡ length ws
unfolding link_in
link_in_length base m x ws =
    let v = get_or ws (base + m) 0 in length-set (set ws (base + x) v) (base + m) x ∙ length-set ws (base + x) v

-- Only these two cells change.
pub link_in_frame : (base m x j : ℕ) (ws : List ℕ) → j ≢ base + m → j ≢ base + x → get_or (link_in base m x ws) j 0 ≡ get_or ws j 0
unfolding link_in
link_in_frame base m x j ws d e =
    let v = get_or ws (base + m) 0 in get_or-set_other (set ws (base + x) v) (base + m) j x 0 d ∙ get_or-set_other ws (base + x) j v 0 e

-- Two stores put an entry right after another.
pub link_law : (base m x link : ℕ) (ws l : List ℕ) → base + m < length ws → base + x < length ws → 0 < occurrences m l →
    ((q : ℕ) → occurrences q l ≤ 1) → occurrences x l ≡ 0 → Chain (link_at base ws) link l →
    Chain (link_at base (link_in base m x ws)) link (insert_after m x l)
unfolding link_in
link_law base m x link ws l hm hx h once new c =
    let v = get_or ws (base + m) 0 in
    let ws₁ = set ws (base + x) v in
    let len = length-set ws (base + x) v in
    let d : m ≢ x = λ e. let h' : 0 < occurrences x l = rw e at h in omega arith in
    chain_insert (link_at base ws) (link_at base (set ws₁ (base + m) x)) m x
    (get_or-set_same ws₁ (base + m) x 0 (omega arith))
    (get_or-set_other ws₁ (base + m) (base + x) x 0 (λ e. d (omega arith)) ∙ get_or-set_same ws (base + x) v 0 hx)
    (λ y a b. get_or-set_other ws₁ (base + m) (base + y) x 0 (λ e. a (omega arith))
    ∙ get_or-set_other ws (base + x) (base + y) v 0 (λ e. b (omega arith)))
    link l h once new c

-- The cells hold the second order of the segments of the first n events as a list that begins with segment 0.
abbrev pub Holding : Trace → ℕ → ℕ → List ℕ → Type 0
Holding tr base n ws = Chain (link_at base ws) 0 (segments tr n).order

-- At the start one store does it,
pub holding_start : (tr : Trace) (base : ℕ) (ws : List ℕ) → base + 0 < length ws → Holding tr base 0 (set ws (base + 0) 0)
unfolding segments
holding_start tr base ws h = (refl, get_or-set_same ws (base + 0) 0 0 h)

-- an access asks for none,
pub holding_access : (tr : Trace) (base n : ℕ) (ws : List ℕ) → is_access (tr.kind n) ≡ true → Holding tr base n ws → Holding tr base (suc n) ws
unfolding segments
holding_access tr base n ws a c = rw a c

-- a move for one link,
pub holding_move : (tr : Trace) (base n : ℕ) (ws : List ℕ) → is_access (tr.kind n) ≡ false → base + suc (moves tr n) < length ws → Holding tr base n ws →
    Holding tr base (suc n) (link_in base (source (tr.kind n) (moves tr n) (segments tr n)) (suc (moves tr n)) ws)
unfolding segments opened
holding_move tr base n ws a h c =
    let m = source (tr.kind n) (moves tr n) (segments tr n) in
    let o = segments_order tr n in
    let below = source_old tr n (tr.kind n) in
    rw a (link_law base m (suc (moves tr n)) 0 ws (segments tr n).order (omega arith) h (omega (arith, o.once m (omega arith)))
    (order_at_most_once (suc (moves tr n)) (segments tr n).order o) (o.no_other (suc (moves tr n)) (omega arith)) c)

-- and stores elsewhere do not matter.
pub holding_frame : (tr : Trace) (base n : ℕ) (ws ws' : List ℕ) → ((a : ℕ) → a ≤ moves tr n → get_or ws' (base + a) 0 ≡ get_or ws (base + a) 0) →
    Holding tr base n ws → Holding tr base n ws'
holding_frame tr base n ws ws' f c =
    let o = segments_order tr n in
    chain_frame (link_at base ws) (link_at base ws') 0 (segments tr n).order
    (λ y i. let h = order_inside (suc (moves tr n)) (segments tr n).order o y i in f y (omega arith)) c

-- ---- the walk

-- What the walk leaves: the places of the entries, and nothing else.
pub record RankedIn (base i : ℕ) (l ws ws' : List ℕ) : Type 0 where
  pub same_length : length ws' ≡ length ws
  pub places : (p : ℕ) → 0 < occurrences p l → get_or ws' (base + p) 0 ≡ i + place p l
  pub others : (j : ℕ) → ((q : ℕ) → 0 < occurrences q l → j ≢ base + q) → get_or ws' j 0 ≡ get_or ws j 0

pub rank_law : (base fuel y i : ℕ) (l ws : List ℕ) → length l < fuel → ((q : ℕ) → occurrences q (y ∷ l) ≤ 1) → occurrences 0 l ≡ 0 →
    ((q : ℕ) → 0 < occurrences q (y ∷ l) → base + q < length ws) → Chain (link_at base ws) (get_or ws (base + y) 0) l →
    RankedIn base i (y ∷ l) ws (rank_in base fuel y i ws)
unfolding rank_in
rank_law base zero y i l ws h once no_zero inside c = absurd (omega arith)
rank_law base (suc fuel) y i [] ws h once no_zero inside c =
    let e : rank_in base (suc fuel) y i ws ≡ set ws (base + y) i = rw c in
    let own : 0 < occurrences y (y ∷ []) = omega (arith, one_if_same y y refl) in
    rw e (record {
      same_length = length-set ws (base + y) i;
      places = λ p k. either (same_or_not y p)
          (λ q. rw (← q) (get_or-set_same ws (base + y) i 0 (inside y own) ∙ omega (arith, place_here y y [] refl)))
          (λ d. absurd (omega (arith, one_if_other y p d)));
      others = λ j f. get_or-set_other ws (base + y) j i 0 (f y own);
    })
rank_law base (suc fuel) y i (z ∷ l) ws h once no_zero inside c =
    let ws₁ = set ws (base + y) i in
    let len = length-set ws (base + y) i in
    let link = c.0 in
    let d : z ≢ 0 = λ q. omega (arith, one_if_same z 0 q) in
    let e : rank_in base (suc fuel) y i ws ≡ rank_in base fuel z (suc i) ws₁ = rw (link, ne_eqb z 0 d) in
    let own : 0 < occurrences y (y ∷ (z ∷ l)) = omega (arith, one_if_same y y refl) in
    let gone : occurrences y (z ∷ l) ≡ 0 = omega (arith, once y, one_if_same y y refl) in
    let apart : (a : ℕ) → 0 < occurrences a (z ∷ l) → base + a ≢ base + y =
    λ a k f. let q : a ≡ y = omega arith in let k' : 0 < occurrences y (z ∷ l) = subst (λ (x : ℕ). 0 < occurrences x (z ∷ l)) q k in omega arith in
    let on = chain_frame (link_at base ws) (link_at base ws₁) (get_or ws (base + y) 0) (z ∷ l)
    (λ a k. get_or-set_other ws (base + y) (base + a) i 0 (apart a k)) c in
    let rest = rank_law base fuel z (suc i) l ws₁ (omega arith) (λ q. omega (arith, once q)) (omega arith)
    (λ q k. omega (arith, inside q (omega arith))) on.1 in
    rw e (record {
      same_length = rest.same_length ∙ len;
      places = λ p k. either (same_or_not y p)
          (λ q.
          let here : get_or (rank_in base fuel z (suc i) ws₁) (base + y) 0 ≡ i =
          rest.others (base + y) (λ a k' f. apart a k' (sym f)) ∙ get_or-set_same ws (base + y) i 0 (inside y own) in
          let first : i ≡ i + place p (y ∷ z ∷ l) = omega (arith, place_here p y (z ∷ l) q) in
          subst (λ (x : ℕ). get_or (rank_in base fuel z (suc i) ws₁) (base + x) 0 ≡ i) q here ∙ first)
          (λ f. rest.places p (omega (arith, one_if_other y p f)) ∙ omega (arith, place_there p y (z ∷ l) f));
      others = λ j f. rest.others j (λ q k. f q (omega arith)) ∙ get_or-set_other ws (base + y) j i 0 (f y own);
    })

-- ---- both
