-- The walk along the list: what is left of it is what the whole walk leaves. Assumes nothing.
use Prim.Native.Nat.{ℕ, zero, suc, ◌+◌, ◌<◌, ◌≤◌}
use mathlib.Core.Path.{◌≡◌, refl, sym, subst, ◌∙◌}
use mathlib.Core.Bool.{cond}
use mathlib.Core.List.{List, [], ◌∷◌}
use mathlib.Core.Logic.{◌≢◌}
use native.Mathlib.Omega.{arith}
use native.Mathlib.Numerals.{add-one}
use lib.Dec.{eqb}
use lib.ListN.{length, get_or, set, length-set}
use lib.Seq.{get_or-set_other}
use borrow.Author.Tests.{eq-eqb, ne_eqb}
use Rattle.trace.specs.Orders.{occurrences}
use Rattle.trace.proofs.Lists.{one_if_same}
use Rattle.segments.proofs.SegmentCells.{Chain, link_at, chain_frame, rank_in}
use Rattle.ranks.specs.Lists.{NEXT, SEGMENTS, Listed}

-- What the walk leaves from `next` on, where the segment before it has this place.
abbrev pub walk_in : ℕ → List ℕ → ℕ → ℕ → List ℕ
walk_in fuel c place next = cond (eqb next 0) c (rank_in NEXT fuel next (suc place) c)

-- Before each turn: `next` begins what is left of the list, and the walk along it leaves `target`.
pub record Numbering (target : List ℕ) (cells : ℕ) (c : List ℕ) (place next : ℕ) : Type 0 where
  pub long : length c ≡ cells
  pub left : List ℕ
  pub fuel : ℕ
  pub few : place + length left < SEGMENTS
  pub enough : length left ≤ fuel
  pub once : (q : ℕ) → occurrences q left ≤ 1
  pub no_zero : occurrences 0 left ≡ 0
  pub inside : (q : ℕ) → 0 < occurrences q left → q < SEGMENTS
  pub chain : Chain (link_at NEXT c) next left
  pub whole : target ≡ walk_in fuel c place next

-- A store to a segment that is not in what is left.
chain_store : (c l : List ℕ) (g v link : ℕ) → occurrences g l ≡ 0 → Chain (link_at NEXT c) link l → Chain (link_at NEXT (set c (NEXT + g) v)) link l
chain_store c l g v link gone =
    chain_frame (link_at NEXT c) (link_at NEXT (set c (NEXT + g) v)) link l
    (λ a k. get_or-set_other c (NEXT + g) (NEXT + a) v 0
    (λ f. let q : a ≡ g = omega arith in let k' : 0 < occurrences g l = rw q at k in omega arith))

rank_step : (fuel g i : ℕ) (c : List ℕ) → rank_in NEXT (suc fuel) g i c ≡
    cond (eqb (get_or c (NEXT + g) 0) 0) (set c (NEXT + g) i) (rank_in NEXT fuel (get_or c (NEXT + g) 0) (suc i) (set c (NEXT + g) i))
unfolding rank_in
rank_step fuel g i c = refl

-- Segment 0 has place 0.
module _ {c d : List ℕ} {next : ℕ} (l : Listed c) (read : next ≡ get_or c (NEXT + 0) 0) (stored : d ≡ set c (NEXT + 0) 0) where
  pub number_begin : Numbering (walk_in 3071 d 0 next) (length d) d 0 next
  number_begin =
      let few = l.few in
      record {
        long = refl;
        left = l.rest;
        fuel = 3071;
        few = omega arith;
        enough = omega arith;
        once = λ q. omega (arith, l.once q);
        no_zero = l.no_zero;
        inside = l.inside;
        chain = rw (read, stored) (chain_store c l.rest 0 0 (get_or c (NEXT + 0) 0) l.no_zero l.chain);
        whole = refl;
      }

  -- So the walk from its next one on leaves what the whole walk does.
  pub number_all : walk_in 3071 d 0 next ≡ rank_in NEXT SEGMENTS 0 0 c
  number_all = rw (read, stored) (sym (rank_step 3071 0 0 c))

-- Where a segment is next, it begins what is left; the store of its place leads to the next turn.
number_turn_at : {target c : List ℕ} {cells place next : ℕ} (n : Numbering target cells c place next) → next ≢ 0 → (l : List ℕ) → n.left ≡ l →
    (d : List ℕ) (after : ℕ) → after ≡ get_or c (NEXT + next) 0 → d ≡ set c (NEXT + next) (place + 1) → Numbering target cells d (place + 1) after
number_turn_at {c = c} {next = next} n some [] e d after read stored =
    let ends : Chain (link_at NEXT c) next [] = subst (Chain (link_at NEXT c) next) e n.chain in absurd (some ends)
number_turn_at {target} {c} {cells} {place} {next} n some (y ∷ l) e d after read stored =
    turn n.fuel n.whole
    (subst (λ (z : List ℕ). length z ≤ n.fuel) e n.enough)
    (subst (λ (z : List ℕ). place + length z < SEGMENTS) e n.few)
    (subst (λ (z : List ℕ). (q : ℕ) → occurrences q z ≤ 1) e n.once)
    (subst (λ (z : List ℕ). occurrences 0 z ≡ 0) e n.no_zero)
    (subst (λ (z : List ℕ). (q : ℕ) → 0 < occurrences q z → q < SEGMENTS) e n.inside)
    (subst (Chain (link_at NEXT c) next) e n.chain)
  where
    turn : (fuel : ℕ) → target ≡ walk_in fuel c place next → suc (length l) ≤ fuel →
        place + suc (length l) < SEGMENTS → ((q : ℕ) → occurrences q (y ∷ l) ≤ 1) → occurrences 0 (y ∷ l) ≡ 0 →
        ((q : ℕ) → 0 < occurrences q (y ∷ l) → q < SEGMENTS) → (next ≡ y) × Chain (link_at NEXT c) (get_or c (NEXT + y) 0) l →
        Numbering target cells d (place + 1) after
    turn zero whole enough few once no_zero inside chain = absurd (omega arith)
    turn (suc fuel) whole enough few once no_zero inside chain =
        let same = chain.0 in
        let gone : occurrences next l ≡ 0 = omega (arith, once next, one_if_same y next (sym same)) in
        let here : Chain (link_at NEXT c) (get_or c (NEXT + next) 0) l =
        subst (λ (z : ℕ). Chain (link_at NEXT c) (get_or c (NEXT + z) 0) l) (sym same) chain.1 in
        rw (read, stored, add-one place) (record {
          long = length-set c (NEXT + next) (suc place) ∙ n.long;
          left = l;
          fuel = fuel;
          few = omega arith;
          enough = omega arith;
          once = λ q. omega (arith, once q);
          no_zero = omega arith;
          inside = λ q k. inside q (omega arith);
          chain = chain_store c l next (suc place) (get_or c (NEXT + next) 0) gone here;
          whole = whole ∙ rw (ne_eqb next 0 some) (rank_step fuel next (suc place) c);
        })

module _ {target c : List ℕ} {cells place next : ℕ} (n : Numbering target cells c place next) where
  pub number_turn : next ≢ 0 → (d : List ℕ) (after : ℕ) → after ≡ get_or c (NEXT + next) 0 → d ≡ set c (NEXT + next) (place + 1) →
      Numbering target cells d (place + 1) after
  number_turn some = number_turn_at n some n.left refl

  -- It is a segment, and its place is small.
  pub number_small : next ≢ 0 → (next < SEGMENTS) × (place + 1 < SEGMENTS)
  number_small some = at n.left n.chain n.inside n.few
    where
      at : (l : List ℕ) → Chain (link_at NEXT c) next l → ((q : ℕ) → 0 < occurrences q l → q < SEGMENTS) → place + length l < SEGMENTS →
          (next < SEGMENTS) × (place + 1 < SEGMENTS)
      at [] ends inside few = absurd (some ends)
      at (y ∷ l) chain inside few = (inside next (omega (arith, one_if_same y next (sym chain.0))), omega arith)

  pub number_finish : next ≡ 0 → c ≡ target
  number_finish e = sym (n.whole ∙ rw (eq-eqb next 0 e))
