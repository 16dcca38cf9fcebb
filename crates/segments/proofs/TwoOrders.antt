-- TWO ORDERS. Among events that keep the line rules, an event p reaches a later event q exactly if p's segment stands no later than q's in the second
-- order of the segments (`two_orders_segments`, at the end).
--
-- Why: the order reads, from left to right, the segments of the paused tasks' forks, the open segment, and the segments of the halts in `left`
-- (`falls`, `rises`). The invariant, for each event p:
--   1. p reaches the tip of an active task exactly if it stands in or before that task's segment;
--   2. p stands in or before the segment of a task of `left` exactly if it reaches that task's tip or stands in or before the segment to the left of it.
-- A move puts a segment where `forks`, the open segment and `halts` meet, so this is an induction with one short case for each kind. Assumes nothing.
use Prim.Native.Nat.{ℕ, suc, ◌<◌, ◌≤◌}
use mathlib.Core.Path.{◌≡◌, refl, sym, subst, ◌∙◌}
use mathlib.Core.Bool.{true}
use mathlib.Core.List.{List, [], ◌∷◌, tail}
use mathlib.Core.Logic.{◌⊎◌, inl, inr, ◌≢◌, ◌↔◌}
use native.Mathlib.Omega.{arith}
use Rattle.trace.specs.Trace.{Trace, FORK, JOIN, HALT, is_access}
use Rattle.trace.specs.Line.{Line, passes, line_after}
use Rattle.trace.specs.Graph.{Reach, graph_events}
use Rattle.trace.specs.Orders.{place}
use Rattle.segments.specs.Segments.{moves, segment, top, segments, rank}
use Rattle.trace.proofs.Tests.{either, last_or_below}
use Rattle.trace.proofs.Lists.{place_injective}
use Rattle.trace.proofs.Paths.{Forward, reach_refl, reach_le}
use Rattle.trace.proofs.Lines.{graph_kept}
use Rattle.trace.proofs.EventKinds.{access_not_join}
use Rattle.trace.proofs.Stacks.{In, in_eq, updated, updated_same, updated_other}
use Rattle.trace.proofs.Run.{Run, start, access, fork, join, halt, used_numbers, distinct_stacks}
use Rattle.trace.proofs.TwoStacks.{run_of}
use Rattle.trace.proofs.Tips.{ReachesTip, tips, reach_own, reach_join, reach_from}
use Rattle.trace.proofs.Forward.{forward as arcs-forward}
use Rattle.segments.proofs.Insertion.{Inserted}
use Rattle.segments.proofs.SegmentFacts.{moves_access, moves_move, segments_access, segment_own, segment_join, segment_old, join_moves, old}
use Rattle.segments.proofs.SegmentFacts.{segments_order, kept_next, rank_prefix, opens_fork, opens_join, opens_halt}
use Rattle.segments.proofs.SegmentStacks.{Ended, stacked}

-- ---- the order reads: forks turned round, the open segment, halts

-- Each entry is in the relation L to the next, from g on.
abbrev Steps : (ℕ → ℕ → Type 0) → ℕ → List ℕ → Type 0
Steps L g [] = Unit {0}
Steps L g (a ∷ s) = L g a × Steps L a s

abbrev NotBefore : List ℕ → ℕ → ℕ → Type 0
NotBefore l a b = place b l ≤ place a l

abbrev Before : List ℕ → ℕ → ℕ → Type 0
Before l a b = place a l < place b l

steps_all : (L : ℕ → ℕ → Type 0) → ((a b c : ℕ) → L a b → L b c → L a c) → (g : ℕ) (s : List ℕ) → Steps L g s → (a : ℕ) → In a s → L g a
steps_all L trans g [] c a i = absurd i
steps_all L trans g (b ∷ s) c a i =
    either i (λ e. subst (λ (z : ℕ). L g z) (sym e) c.0) (λ j. trans g b a c.0 (steps_all L trans b s c.1 a j))

-- A new segment leaves the order of the others; it may come in the place of g.
steps_next : (L L' : ℕ → ℕ → Type 0) (new g g' : ℕ) (s : List ℕ) → ((a b : ℕ) → a ≢ new → b ≢ new → L a b → L' a b) →
    ((a : ℕ) → a ≢ new → L g a → L' g' a) → ((a : ℕ) → In a s → a ≢ new) → Steps L g s → Steps L' g' s
steps_next L L' new g g' [] kept head old c = tt
steps_next L L' new g g' (a ∷ s) kept head old c =
    let o = old a (inl refl) in
    (head a o c.0, steps_next L L' new a a s kept (λ b i. kept a b o i) (λ b i. old b (inr i)) c.1)

-- ---- the invariant, for one event that reaches the tips of the tasks y with R y and stands in or before the segments a with B a

abbrev PausedPlaced : (ℕ → Type 0) → (ℕ → Type 0) → List ℕ → List ℕ → Type 0
PausedPlaced R B [] forks = Unit {0}
PausedPlaced R B (y ∷ s) [] = Unit {0}
PausedPlaced R B (y ∷ s) (a ∷ forks) = (R y ↔ B a) × PausedPlaced R B s forks

-- P: it stands in or before the segment to the left.
abbrev LeftPlaced : (ℕ → Type 0) → (ℕ → Type 0) → Type 0 → List ℕ → List ℕ → Type 0
LeftPlaced R B P [] halts = Unit {0}
LeftPlaced R B P (y ∷ left) [] = Unit {0}
LeftPlaced R B P (y ∷ left) (a ∷ halts) = ((P ⊎ R y) ↔ B a) × LeftPlaced R B (B a) left halts

paused_same : (R B R' B' : ℕ → Type 0) (s forks : List ℕ) → ((y : ℕ) → In y s → R y ↔ R' y) → ((a : ℕ) → In a forks → B a ↔ B' a) →
    PausedPlaced R B s forks → PausedPlaced R' B' s forks
paused_same R B R' B' [] forks f g c = tt
paused_same R B R' B' (y ∷ s) [] f g c = tt
paused_same R B R' B' (y ∷ s) (a ∷ forks) f g c = (
  (λ r. (g a (inl refl)).0 (c.0.0 ((f y (inl refl)).1 r)), λ b. (f y (inl refl)).0 (c.0.1 ((g a (inl refl)).1 b))),
  paused_same R B R' B' s forks (λ z i. f z (inr i)) (λ z i. g z (inr i)) c.1,
)

left_same : (R B R' B' : ℕ → Type 0) (P P' : Type 0) (left halts : List ℕ) → P ↔ P' → ((y : ℕ) → In y left → R y ↔ R' y) →
    ((a : ℕ) → In a halts → B a ↔ B' a) → LeftPlaced R B P left halts → LeftPlaced R' B' P' left halts
left_same R B R' B' P P' [] halts w f g c = tt
left_same R B R' B' P P' (y ∷ left) [] w f g c = tt
left_same R B R' B' P P' (y ∷ left) (a ∷ halts) w f g c = (
  (
    λ r. (g a (inl refl)).0 (c.0.0 (either r (λ p. inl (w.1 p)) (λ q. inr ((f y (inl refl)).1 q)))),
    λ b. either (c.0.1 ((g a (inl refl)).1 b)) (λ p. inl (w.0 p)) (λ q. inr ((f y (inl refl)).0 q)),
  ),
  left_same R B R' B' (B a) (B' a) left halts (g a (inl refl)) (λ z i. f z (inr i)) (λ z i. g z (inr i)) c.1,
)

-- An event that reaches no tip of these tasks and stands after all of their segments.
paused_none : (R B : ℕ → Type 0) (s forks : List ℕ) → ((y : ℕ) → In y s → R y → ⊥) → ((a : ℕ) → In a forks → B a → ⊥) → PausedPlaced R B s forks
paused_none R B [] forks f g = tt
paused_none R B (y ∷ s) [] f g = tt
paused_none R B (y ∷ s) (a ∷ forks) f g = (
  (λ r. absurd (f y (inl refl) r), λ b. absurd (g a (inl refl) b)),
  paused_none R B s forks (λ z i. f z (inr i)) (λ z i. g z (inr i)),
)

-- An event that stands in or before these segments, and the one to the left.
left_all : (R B : ℕ → Type 0) (P : Type 0) (left halts : List ℕ) → P → ((a : ℕ) → In a halts → B a) → LeftPlaced R B P left halts
left_all R B P [] halts p g = tt
left_all R B P (y ∷ left) [] p g = tt
left_all R B P (y ∷ left) (a ∷ halts) p g =
    ((λ r. g a (inl refl), λ b. inl p), left_all R B (B a) left halts (g a (inl refl)) (λ z i. g z (inr i)))

record Placed (R B : ℕ → Type 0) (x g : ℕ) (paused forks left halts : List ℕ) : Type 0 where
  own : R x ↔ B g
  of_paused : PausedPlaced R B paused forks
  of_left : LeftPlaced R B (B g) left halts

-- p reaches the tip of the task y.
abbrev Reaches : Trace → ℕ → (ℕ → ℕ) → ℕ → ℕ → Type 0
Reaches tr graph last p y = ReachesTip tr graph p (last y)

-- p stands in or before the segment a.
abbrev Stands : Trace → List ℕ → ℕ → ℕ → Type 0
Stands tr l p a = place (segment tr p) l ≤ place a l

-- Of the first n events, where x runs, after the segment g.
record Inv (tr : Trace) (graph n : ℕ) (last : ℕ → ℕ) (l : List ℕ) (x g : ℕ) (paused forks left halts : List ℕ) : Type 0 where
  falls : Steps (NotBefore l) g forks
  rises : Steps (Before l) g halts
  placed : (p : ℕ) → p < n → Placed (Reaches tr graph last p) (Stands tr l p) x g paused forks left halts

same : (P : ℕ → Type 0) (z : ℕ) → P z ↔ P z
same P z = (λ c. c, λ c. c)

module _ (tr : Trace) (graph n : ℕ) (last : ℕ → ℕ) (l : List ℕ) where
  -- A new segment, put right after m, takes the place of m.
  inv_insert : (l' : List ℕ) (m new x : ℕ) (paused forks left halts : List ℕ) → Inserted m new l l' →
      ((p : ℕ) → p < n → segment tr p ≢ new) → ((a : ℕ) → In a forks → a ≢ new) → ((a : ℕ) → In a halts → a ≢ new) →
      Inv tr graph n last l x m paused forks left halts → Inv tr graph n last l' x new paused forks left halts
  inv_insert l' m new x paused forks left halts put old of_forks of_halts inv =
      let later : (a b : ℕ) → a ≢ new → b ≢ new → Before l a b → Before l' a b = λ a b d e h.
      let no : place b l' ≤ place a l' → ⊥ = λ i. let j = (put.others b a e d).1 i in omega arith in
      omega arith in
      let beyond : (a : ℕ) → a ≢ new → Before l m a → Before l' new a = λ a d h.
      let no : place a l' ≤ place new l' → ⊥ = λ i. let j = (put.up_to a d).1 i in omega arith in
      omega arith in
      record {
        falls = steps_next (NotBefore l) (NotBefore l') new m new forks (λ a b d e h. (put.others b a e d).0 h) (λ a d h. (put.up_to a d).0 h) of_forks
            inv.falls;
        rises = steps_next (Before l) (Before l') new m new halts later beyond of_halts inv.rises;
        placed = λ p h.
            let R = Reaches tr graph last p in
            let B = Stands tr l p in
            let B' = Stands tr l' p in
            let at = inv.placed p h in
            let d = old p h in
            let first = put.up_to (segment tr p) d in
            let keep : (a : ℕ) → a ≢ new → B a ↔ B' a = λ a e. put.others (segment tr p) a d e in
            record {
              own = (λ r. first.0 (at.own.0 r), λ b. at.own.1 (first.1 b));
              of_paused = paused_same R B R B' paused forks (λ y i. same R y) (λ a i. keep a (of_forks a i)) at.of_paused;
              of_left = left_same R B R B' (B m) (B' new) left halts first (λ y i. same R y) (λ a i. keep a (of_halts a i)) at.of_left;
            };
      }

  -- A fork: the child c, whose tip is its parent's, comes after the segment g.
  inv_fork : (last' : ℕ → ℕ) (x c g : ℕ) (paused forks left halts : List ℕ) → last' c ≡ last x →
      ((y : ℕ) → In y (x ∷ paused) → last' y ≡ last y) → ((y : ℕ) → In y left → last' y ≡ last y) →
      Inv tr graph n last l x g paused forks left halts → Inv tr graph n last' l c g (x ∷ paused) (g ∷ forks) left halts
  inv_fork last' x c g paused forks left halts child same-paused same_left inv =
      record {
        falls = (omega arith, inv.falls);
        rises = inv.rises;
        placed = λ p h.
            let R = Reaches tr graph last p in
            let B = Stands tr l p in
            let R' = Reaches tr graph last' p in
            let at = inv.placed p h in
            let tip : (y z : ℕ) → last' z ≡ last y → R y ↔ R' z = λ y z e. rw e (λ r. r, λ r. r) in
            record {
              own = (λ r. at.own.0 ((tip x c child).1 r), λ b. (tip x c child).0 (at.own.1 b));
              of_paused =
                  paused_same R B R' B (x ∷ paused) (g ∷ forks) (λ y i. tip y y (same-paused y i)) (λ a i. same B a) (at.own, at.of_paused);
              of_left = left_same R B R' B (B g) (B g) left halts (same B g) (λ y i. tip y y (same_left y i)) (λ a i. same B a) at.of_left;
            };
      }

  -- A halt of x: its parent y goes on after the segment f of the fork.
  inv_halt : (x y g f : ℕ) (paused forks left halts : List ℕ) → Before l f g → Inv tr graph n last l x g (y ∷ paused) (f ∷ forks) left halts →
      Inv tr graph n last l y f paused forks (x ∷ left) (g ∷ halts)
  inv_halt x y g f paused forks left halts before inv =
      record {
        falls = inv.falls.1;
        rises = (before, inv.rises);
        placed = λ p h.
            let at = inv.placed p h in
            record {
              own = at.of_paused.0;
              of_paused = at.of_paused.1;
              of_left = ((λ r. either r (λ b. omega arith) at.own.0, λ b. inr (at.own.1 b)), at.of_left);
            };
      }

-- ---- an event of the running task

-- p reaches the tip that event n is exactly if it reaches event n.
tip_is : (tr : Trace) (graph p n value : ℕ) → value ≡ suc n → ReachesTip tr graph p value ↔ Reach tr graph p n
tip_is tr graph p n value e = (
  λ t. let q : t.0 ≡ n = omega (arith, t.1) in subst (λ (z : ℕ). Reach tr graph p z) q t.2,
  λ r. (n, e, r),
)

module _ (haltRule : Line → ℕ) (tr : Trace) (graph : ℕ) (forward : Forward tr graph) where
  module _ {n : ℕ} {left paused used : List ℕ} {last : ℕ → ℕ} (run : Run haltRule tr n left (tr.task n ∷ paused) used last)
      (inside : n < graph) where
    own_tip : (p : ℕ) → ReachesTip tr graph p (updated last (tr.task n) (suc n) (tr.task n)) ↔ Reach tr graph p n
    own_tip p = tip_is tr graph p n _ (updated_same last (tr.task n) (suc n) (tr.task n) refl)

    other_tip : (p y : ℕ) → y ≢ tr.task n → Reaches tr graph last p y ↔ Reaches tr graph (updated last (tr.task n) (suc n)) p y
    other_tip p y d = rw (updated_other last (tr.task n) (suc n) y d) (λ r. r, λ r. r)

    paused_tip : (p y : ℕ) → In y paused → Reaches tr graph last p y ↔ Reaches tr graph (updated last (tr.task n) (suc n)) p y
    paused_tip p y i = other_tip p y (λ e. (distinct_stacks haltRule tr run).of_active.0 (in_eq paused (sym e) i))

    left_tip : (p y : ℕ) → In y left → Reaches tr graph last p y ↔ Reaches tr graph (updated last (tr.task n) (suc n)) p y
    left_tip p y i = other_tip p y (λ e. (distinct_stacks haltRule tr run).disjoint y i (inl e))

    -- Event n becomes the tip of the running task,
    inv_tip : (l : List ℕ) (g : ℕ) (forks halts : List ℕ) → tr.kind n ≢ JOIN → Inv tr graph n last l (tr.task n) g paused forks left halts →
        Inv tr graph n (updated last (tr.task n) (suc n)) l (tr.task n) g paused forks left halts
    inv_tip l g forks halts k inv =
        record {
          falls = inv.falls;
          rises = inv.rises;
          placed = λ p i.
              let R = Reaches tr graph last p in
              let B = Stands tr l p in
              let R' = Reaches tr graph (updated last (tr.task n) (suc n)) p in
              let at = inv.placed p i in
              record {
                own = (
                  λ r. at.own.0 (either (reach_from haltRule tr graph forward run inside p i ((own_tip p).0 r)) (λ t. t) (λ t. absurd (k t.0))),
                  λ b. (own_tip p).1 (reach_own haltRule tr graph forward run inside p (at.own.1 b)),
                );
                of_paused = paused_same R B R' B paused forks (paused_tip p) (λ a j. same B a) at.of_paused;
                of_left = left_same R B R' B (B g) (B g) left halts (same B g) (left_tip p) (λ a j. same B a) at.of_left;
              };
        }

    -- and is taken in itself, in the segment g.
    inv_take : (l : List ℕ) (g : ℕ) (forks left' halts : List ℕ) → segment tr n ≡ g → ((a : ℕ) → In a forks → Before l a g) →
        Inv tr graph n (updated last (tr.task n) (suc n)) l (tr.task n) g paused forks left' halts →
        Inv tr graph (suc n) (updated last (tr.task n) (suc n)) l (tr.task n) g paused forks left' halts
    inv_take l g forks left' halts e strict inv =
        let R = Reaches tr graph (updated last (tr.task n) (suc n)) n in
        let B = Stands tr l n in
        let here : B g = rw e (omega arith) in
        record {
          falls = inv.falls;
          rises = inv.rises;
          placed = λ p h. either (last_or_below p n h)
              (λ q. rw q (record {
                own = (λ r. here, λ b. (own_tip n).1 (reach_refl inside));
                of_paused =
                    paused_none R B paused forks
                    (λ y i t.
                    let t' = (paused_tip n y i).1 t in
                    let below = ((tips haltRule tr run).sound y t'.0 t'.1).0 in
                    let back = reach_le forward t'.2 in
                    omega arith)
                    (λ a i b. let less = strict a i in let b' : place g l ≤ place a l = rw e at b in omega arith);
                of_left =
                    left_all R B (B g) left' halts here
                    (λ a i. let less = steps_all (Before l) (λ x y z f h. omega arith) g halts inv.rises a i in rw e (omega arith));
              }))
              (inv.placed p);
        }

  -- A join of the top of `left`: the running task comes after the segment h of the halt.
  module _ {n : ℕ} {left paused used : List ℕ} {last : ℕ → ℕ}
      (run : Run haltRule tr n (tr.operand n ∷ left) (tr.task n ∷ paused) used last) (inside : n < graph) where
    inv_join : (l : List ℕ) (g h : ℕ) (forks halts : List ℕ) → tr.kind n ≡ JOIN →
        Inv tr graph n last l (tr.task n) g paused forks (tr.operand n ∷ left) (h ∷ halts) →
        Inv tr graph n (updated last (tr.task n) (suc n)) l (tr.task n) h paused forks left halts
    inv_join l g h forks halts k inv =
        let beyond : Before l g h = inv.rises.0 in
        record {
          falls = first forks inv.falls beyond;
          rises = inv.rises.1;
          placed = λ p i.
              let R = Reaches tr graph last p in
              let B = Stands tr l p in
              let R' = Reaches tr graph (updated last (tr.task n) (suc n)) p in
              let at = inv.placed p i in
              let joined = at.of_left.0 in
              let own = own_tip run inside p in
              record {
                own = (
                  λ r. joined.0 (either (reach_from haltRule tr graph forward run inside p i (own.0 r)) (λ t. inl (at.own.0 t)) (λ t. inr t.1)),
                  λ b. own.1 (either (joined.1 b)
                      (λ c. reach_own haltRule tr graph forward run inside p (at.own.1 c))
                      (reach_join haltRule tr graph forward run inside p k (inl refl))),
                );
                of_paused = paused_same R B R' B paused forks (paused_tip run inside p) (λ a j. same B a) at.of_paused;
                of_left = left_same R B R' B (B h) (B h) left halts (same B h) (λ y j. left_tip run inside p y (inr j)) (λ a j. same B a) at.of_left.1;
              };
        }
      where
        first : (s : List ℕ) → Steps (NotBefore l) g s → Before l g h → Steps (NotBefore l) h s
        first [] c b = tt
        first (a ∷ s) c b = let le = c.0 in (omega arith, c.1)

-- ---- the events of a run

-- Where x runs in the open segment, after n events.
abbrev InvAt : Trace → ℕ → ℕ → (ℕ → ℕ) → ℕ → List ℕ → List ℕ → Type 0
InvAt tr graph n last x paused left = Inv tr graph n last (segments tr n).order x (moves tr n) paused (segments tr n).forks left (segments tr n).halts

-- The invariant, as long as a task runs.
abbrev Holds : Trace → ℕ → ℕ → (ℕ → ℕ) → List ℕ → ℕ → List ℕ → List ℕ → List ℕ → List ℕ → Type 0
Holds tr graph n last l g [] forks left halts = Unit {0}
Holds tr graph n last l g (x ∷ paused) forks left halts = Inv tr graph n last l x g paused forks left halts

halt_next : (tr : Trace) (graph n : ℕ) (last : ℕ → ℕ) (l l' : List ℕ) (x g : ℕ) (paused forks left halts : List ℕ) →
    ((p : ℕ) → p < n → segment tr p ≢ suc g) → Inserted (top g forks) (suc g) l l' → ((a : ℕ) → In a forks → a < g) →
    ((a : ℕ) → In a (g ∷ halts) → a ≢ suc g) → ((a : ℕ) → In a forks → Before l a g) → (m : ℕ) → Ended tr m FORK paused forks →
    Inv tr graph n last l x g paused forks left halts → Holds tr graph n last l' (suc g) paused (tail forks) (x ∷ left) (g ∷ halts)
unfolding top
halt_next tr graph n last l l' x g [] forks left halts old put of_forks of_halts strict m ended inv = tt
halt_next tr graph n last l l' x g (y ∷ paused) [] left halts old put of_forks of_halts strict m ended inv = absurd ended
halt_next tr graph n last l l' x g (y ∷ paused) (f ∷ forks) left halts old put of_forks of_halts strict m ended inv =
    inv_insert tr graph n last l l' f (suc g) y paused forks (x ∷ left) (g ∷ halts) put old (λ a i e. omega (arith, of_forks a (inr i))) of_halts
    (inv_halt tr graph n last l x y g f paused forks left halts (strict f (inl refl)) inv)

module _ (haltRule : Line → ℕ) (tr : Trace) (graph : ℕ) (forward : Forward tr graph) where
  join_next : {n : ℕ} {left paused used : List ℕ} {last : ℕ → ℕ} →
      Run haltRule tr n (tr.operand n ∷ left) (tr.task n ∷ paused) used last → n < graph →
      (l l' : List ℕ) (g : ℕ) (forks halts : List ℕ) → tr.kind n ≡ JOIN → Inserted (top g halts) (suc g) l l' →
      ((p : ℕ) → p < n → segment tr p ≢ suc g) → ((a : ℕ) → In a forks → a ≢ suc g) → ((a : ℕ) → In a halts → a ≢ suc g) →
      Ended tr n HALT (tr.operand n ∷ left) halts → Inv tr graph n last l (tr.task n) g paused forks (tr.operand n ∷ left) halts →
      Inv tr graph n (updated last (tr.task n) (suc n)) l' (tr.task n) (suc g) paused forks left (tail halts)
  unfolding top
  join_next run inside l l' g forks [] k put old of_forks of_halts ended inv = absurd ended
  join_next {n = n} {left = left} {paused = paused} {last = last} run inside l l' g forks (h ∷ halts) k put old of_forks of_halts ended inv =
      inv_insert tr graph n (updated last (tr.task n) (suc n)) l l' h (suc g) (tr.task n) paused forks left halts put old of_forks
      (λ a i. of_halts a (inr i)) (inv_join haltRule tr graph forward run inside l g h forks halts k inv)

  holds_start : InvAt tr graph 0 (λ t. 0) 0 [] []
  unfolding segments moves
  holds_start = record { falls = tt; rises = tt; placed = λ p h. absurd (omega arith) }

  -- The segments of the forks come before the open one.
  strictly : (n : ℕ) → Steps (NotBefore (segments tr n).order) (moves tr n) (segments tr n).forks → (a : ℕ) → In a (segments tr n).forks →
      Before (segments tr n).order a (moves tr n)
  strictly n c a i =
      let l = (segments tr n).order in
      let le = steps_all (NotBefore l) (λ x y z f h. omega arith) (moves tr n) (segments tr n).forks c a i in
      let below = (old tr n).of_forks a i in
      let once = (segments_order tr n).once a (omega arith) in
      let ne : place a l ≢ place (moves tr n) l = λ e. let q = place_injective a (moves tr n) l (omega arith) e in omega arith in
      omega arith

  module _ {n : ℕ} {left paused used : List ℕ} {last : ℕ → ℕ} (run : Run haltRule tr n left (tr.task n ∷ paused) used last)
      (inside : n < graph) (inv : InvAt tr graph n last (tr.task n) paused left) where
    -- An event that is no join, taken into the open segment.
    taken : tr.kind n ≢ JOIN →
        Inv tr graph (suc n) (updated last (tr.task n) (suc n)) (segments tr n).order (tr.task n) (moves tr n) paused (segments tr n).forks left
        (segments tr n).halts
    taken k =
        inv_take haltRule tr graph forward run inside _ _ _ _ _ (segment_own tr n k) (strictly n inv.falls)
        (inv_tip haltRule tr graph forward run inside _ _ _ _ k inv)

    old_taken : tr.kind n ≢ JOIN → (p : ℕ) → p < suc n → segment tr p ≢ suc (moves tr n)
    old_taken k p h q =
        either (last_or_below p n h)
        (λ e. let q' : segment tr n ≡ suc (moves tr n) = rw e at q in omega (arith, segment_own tr n k))
        (λ i. omega (arith, segment_old tr n p i))

    holds_access : is_access (tr.kind n) ≡ true →
        InvAt tr graph (suc n) (updated last (tr.task n) (suc n)) (tr.task n) paused left
    holds_access k = rw (segments_access tr n k, moves_access tr n k) (taken (access_not_join (tr.kind n) k))

    holds_fork : tr.kind n ≡ FORK → (In (tr.operand n) used → ⊥) →
        InvAt tr graph (suc n) (updated (updated last (tr.task n) (suc n)) (tr.operand n) (suc n)) (tr.operand n) (tr.task n ∷ paused) left
    holds_fork k new =
        let s = opens_fork tr n k in
        let o = old tr n in
        let u = used_numbers haltRule tr run in
        let c = tr.operand n in
        let last₁ = updated last (tr.task n) (suc n) in
        let last₂ = updated last₁ c (suc n) in
        let not-join : tr.kind n ≢ JOIN = λ j. omega arith in
        let keep : (y : ℕ) → In y used → last₂ y ≡ last₁ y = λ y i. updated_other last₁ c (suc n) y (λ e. new (in_eq used (sym e) i)) in
        rw (s.one_more_move, s.forks_are, s.halts_are)
        (inv_insert tr graph (suc n) last₂ _ _ (moves tr n) (suc (moves tr n)) c (tr.task n ∷ paused) _ left _ s.put (old_taken not-join)
        (λ a i e. either i (λ q. omega arith) (λ j. omega (arith, o.of_forks a j))) (λ a i e. omega (arith, o.of_halts a i))
        (inv_fork tr graph (suc n) last₁ _ last₂ (tr.task n) c (moves tr n) paused _ left _
        (updated_same last₁ c (suc n) c refl ∙ sym (updated_same last (tr.task n) (suc n) (tr.task n) refl))
        (λ y i. keep y (u.of_active y i)) (λ y i. keep y (u.of_left y i)) (taken not-join)))

    holds_halt : tr.kind n ≡ HALT →
        Holds tr graph (suc n) (updated last (tr.task n) (suc n)) (segments tr (suc n)).order (moves tr (suc n)) paused (segments tr (suc n)).forks
        (tr.task n ∷ left) (segments tr (suc n)).halts
    holds_halt k =
        let s = opens_halt tr n k in
        let o = old tr n in
        let not-join : tr.kind n ≢ JOIN = λ j. omega arith in
        rw (s.one_more_move, s.forks_are, s.halts_are)
        (halt_next tr graph (suc n) (updated last (tr.task n) (suc n)) _ _ (tr.task n) (moves tr n) paused _ left _ (old_taken not-join) s.put
        o.of_forks (λ a i e. either i (λ q. omega arith) (λ j. omega (arith, o.of_halts a j))) (strictly n inv.falls) n
        (stacked haltRule tr run).of_forks (taken not-join))

  holds_join : {n : ℕ} {left paused used : List ℕ} {last : ℕ → ℕ} →
      Run haltRule tr n (tr.operand n ∷ left) (tr.task n ∷ paused) used last → n < graph → tr.kind n ≡ JOIN →
      InvAt tr graph n last (tr.task n) paused (tr.operand n ∷ left) → InvAt tr graph (suc n) (updated last (tr.task n) (suc n)) (tr.task n) paused left
  holds_join {n = n} {left = left} {paused = paused} {last = last} run inside k inv =
      let s = opens_join tr n k in
      let o = old tr n in
      let next : Inv tr graph n (updated last (tr.task n) (suc n)) (segments tr (suc n)).order (tr.task n) (moves tr (suc n)) paused
      (segments tr (suc n)).forks left (segments tr (suc n)).halts =
      rw (s.one_more_move, s.forks_are, s.halts_are)
      (join_next run inside _ _ (moves tr n) _ _ k s.put (λ p h e. omega (arith, segment_old tr n p h)) (λ a i e. omega (arith, o.of_forks a i))
      (λ a i e. omega (arith, o.of_halts a i)) (stacked haltRule tr run).of_halts inv) in
      inv_take haltRule tr graph forward run inside _ _ _ _ _ (segment_join tr n k ∙ sym s.one_more_move) (strictly (suc n) next.falls) next

  -- The invariant holds at every moment of a run.
  holds : {n : ℕ} {left active used : List ℕ} {last : ℕ → ℕ} → Run haltRule tr n left active used last → n ≤ graph →
      Holds tr graph n last (segments tr n).order (moves tr n) active (segments tr n).forks left (segments tr n).halts
  holds start within = holds_start
  holds (access run k o) within = holds_access run within (holds run (omega arith)) k
  holds (fork run k o new) within = holds_fork run within (holds run (omega arith)) k new
  holds (join run k) within = holds_join run within k (holds run (omega arith))
  holds (halt run k o) within = holds_halt run within (holds run (omega arith)) k

  -- So the two orders agree on the paths to the event just taken in,
  agree_last : (n : ℕ) (last : ℕ → ℕ) (l : List ℕ) (x g : ℕ) (paused forks left halts : List ℕ) → last x ≡ suc n → segment tr n ≡ g →
      Inv tr graph (suc n) last l x g paused forks left halts → (p : ℕ) → p < n →
      Reach tr graph p n ↔ (place (segment tr p) l ≤ place (segment tr n) l)
  agree_last n last l x g paused forks left halts e f inv p h =
      let own = (inv.placed p (omega arith)).own in
      let tip = tip_is tr graph p n (last x) e in
      rw f (λ r. own.0 (tip.1 r), λ b. tip.0 (own.1 b))

  abbrev AgreeLast : ℕ → Type 0
  AgreeLast n = (p : ℕ) → p < n → Reach tr graph p n ↔ (rank tr (suc n) p ≤ rank tr (suc n) n)

  -- also once the segment that it ends has a next one,
  agree_own : {n : ℕ} {left paused used : List ℕ} {last : ℕ → ℕ} → Run haltRule tr n left (tr.task n ∷ paused) used last → n < graph →
      tr.kind n ≢ JOIN → AgreeLast n
  unfolding rank
  agree_own {n = n} {last = last} run inside k p h =
      let inv = taken run inside (holds run (omega arith)) k in
      let a = agree_last n _ _ (tr.task n) (moves tr n) _ _ _ _ (updated_same last (tr.task n) (suc n) (tr.task n) refl) (segment_own tr n k) inv p h in
      let s = kept_next tr n (segment tr p) (segment tr n) (segment_old tr n p h) (omega (arith, segment_own tr n k)) in
      (λ r. s.0 (a.0 r), λ b. a.1 (s.1 b))

  agree_join : {n : ℕ} {left paused used : List ℕ} {last : ℕ → ℕ} →
      Run haltRule tr n (tr.operand n ∷ left) (tr.task n ∷ paused) used last → n < graph → tr.kind n ≡ JOIN → AgreeLast n
  unfolding rank
  agree_join {n = n} {last = last} run inside k =
      agree_last n _ _ (tr.task n) (moves tr (suc n)) _ _ _ _ (updated_same last (tr.task n) (suc n) (tr.task n) refl)
      (segment_join tr n k ∙ sym (moves_move tr n (join_moves tr n k))) (holds_join run inside k (holds run (omega arith)))

  -- and, as later events keep the order, on all paths.
  abbrev Agree : ℕ → Type 0
  Agree n = (p q : ℕ) → p < q → q < n → Reach tr graph p q ↔ (rank tr n p ≤ rank tr n q)

  agree_next : (n : ℕ) → AgreeLast n → Agree n → Agree (suc n)
  agree_next n now before p q h i =
      either (last_or_below q n i)
      (λ e. let a = now p (omega arith) in rw e a)
      (λ j.
      let a = before p q h j in
      let s = rank_prefix tr n (suc n) p q (omega arith) (omega arith) j in
      (λ r. s.0 (a.0 r), λ b. a.1 (s.1 b)))

  agree : {n : ℕ} {left active used : List ℕ} {last : ℕ → ℕ} → Run haltRule tr n left active used last → n ≤ graph → Agree n
  agree start within = λ p q h i. absurd (omega arith)
  agree (access {n = n} run k o) within = agree_next n (agree_own run within (access_not_join (tr.kind n) k)) (agree run (omega arith))
  agree (fork {n = n} run k o new) within = agree_next n (agree_own run within (λ j. omega arith)) (agree run (omega arith))
  agree (join {n = n} run k) within = agree_next n (agree_join run within k) (agree run (omega arith))
  agree (halt {n = n} run k o) within = agree_next n (agree_own run within (λ j. omega arith)) (agree run (omega arith))

-- ---- the theorem

-- Where the first n events keep the line rules, an event reaches a later one exactly if its segment stands no later in the second order.
pub two_orders_segments : (haltRule : Line → ℕ) (tr : Trace) (n : ℕ) (line : Line) → line_after haltRule tr n ≡ passes line → (p q : ℕ) → p < q → q < n →
    Reach tr n p q ↔ (rank tr n p ≤ rank tr n q)
two_orders_segments haltRule tr n line e =
    agree haltRule tr n (arcs-forward haltRule tr n line e) (run_of haltRule tr n line e).run (omega arith)

-- So it is in the graph of every trace, which has the events before the first that breaks a rule.
pub two_orders_graph : (haltRule : Line → ℕ) (tr : Trace) (n p q : ℕ) → p < q → q < graph_events haltRule tr n →
    Reach tr (graph_events haltRule tr n) p q ↔ (rank tr (graph_events haltRule tr n) p ≤ rank tr (graph_events haltRule tr n) q)
two_orders_graph haltRule tr n =
    let kept = graph_kept haltRule tr n in two_orders_segments haltRule tr (graph_events haltRule tr n) kept.0 kept.1
