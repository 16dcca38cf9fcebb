-- The list by numbers, none where no access races, else counted and then written, or refused by row 20; and that it is the list of K7. Assumes nothing.
use Prim.Native.Nat.{ℕ, suc, ◌+◌, ◌<◌, ◌≤◌}
use mathlib.Core.Path.{◌≡◌, refl, sym, ap₂, subst, ◌∙◌}
use mathlib.Core.Bool.{Bool, true, false, false≢true}
use mathlib.Core.List.{List, [], map}
use mathlib.Core.Logic.{inl, inr}
use Rattle.std.specs.Prelude.{Option, Some, None, is_some, unwrap_or}
use native.Mathlib.Omega.{arith}
use lib.ListN.{length, length-map}
use borrow.Author.Tests.{le-ltb}
use Rattle.trace.specs.declared.Row.{Row}
use Rattle.trace.specs.Rows.{row_number}
use Rattle.trace.specs.Trace.{Trace, trace_of, WORKSPACE_CELLS}
use Rattle.trace.specs.Line.{passes, fails, row, halt_operand, line_after}
use Rattle.trace.specs.Search.{race?}
use Rattle.trace.specs.Outcome.{Reply, says, refused}
use Rattle.trace.proofs.Tests.{either, lt_or_le, tests_fails, tests_false, tests_map, tests_unique, test_or, test_lt}
use Rattle.trace.proofs.Lines.{line_more, fails_later}
use Rattle.trace.proofs.Numbers.{Numbers}
use Rattle.trace.proofs.Searches.{test_race}
use Rattle.trace.proofs.Sizes.{Sized}
use Rattle.trace.proofs.Lists.{sets_front}
use Rattle.cells.specs.Cells.{SameFrom, Rest}
use Rattle.cells.proofs.Rests.{same_from_higher, same_beyond, rest_beyond, rest_trans}
use Rattle.ranks.specs.States.{Leading, own_number, Spread, SegmentsIn, RankSays}
use Rattle.ranks.proofs.Spreading.{spread_own, spread_segments}
use Rattle.scan.specs.Numbered.{Numbered, FirstRace}
use Rattle.scan.specs.Tables.{TABLES as SCAN-TABLES}
use Rattle.scan.proofs.Scanning.{numbered_same}
use Rattle.scan.proofs.Racing.{numbered_ranked, by_number, of_trace}
use Rattle.pairs.specs.Pairs.{Pair, close_pairs, Slices, slices, holding, too_short, list_checked, listing}
use Rattle.pairs.specs.Close.{race_by, written, Fits, TABLES, Listable, Ready, racing, PassSays, ListSays, GatherSays}
use Rattle.pairs.proofs.Partners.{test_race_by, race_by_same}
use Rattle.pairs.proofs.Storing.{no_length}
use Rattle.pairs.proofs.PairLists.{below_none, below_agree}
use Rattle.pairs.proofs.Passing.{racing_same}

-- ---- the slices and row 20

pub written_holding : (list : List Pair) (b : Slices) → length list ≤ length b.earlier → length list ≤ length b.later → written true 0 list b ≡ holding list b
unfolding written holding
written_holding list b room room' =
    ap₂ slices (sets_front (map (λ p. p.s) list) b.earlier (length list) (length-map list (λ p. p.s)) room)
    (sets_front (map (λ p. p.t) list) b.later (length list) (length-map list (λ p. p.t)) room')

pub long_enough : (b : Slices) (k : ℕ) → too_short b k ≡ false → (k ≤ length b.earlier) × (k ≤ length b.later)
unfolding too_short
long_enough b k e =
    let no = tests_fails _ (test_or _ _ (test_lt (length b.earlier) k) (test_lt (length b.later) k)) e in (
      either (lt_or_le (length b.earlier) k) (λ h. absurd (no (inl h))) (λ h. h),
      either (lt_or_le (length b.later) k) (λ h. absurd (no (inr h))) (λ h. h),
    )

-- The pass that counts needs no room.
pub fits_counting : (k : ℕ) (b : Slices) → Fits false k b
fits_counting k b = record { earlier = λ e. absurd (false≢true e); later = λ e. absurd (false≢true e) }

-- What is told of a list.
abbrev Tells : List Pair → Slices → Slices → Reply ℕ → Type 0
Tells list b b' reply =
    (w : List ℕ) → record { answer = reply; slices = b'; workspace = w } ≡ list_checked b w list (row 20 (too_short b (length list)) (passes (length list)))

tells_short : (list : List Pair) (b : Slices) → too_short b (length list) ≡ true → Tells list b b (refused 20 0)
unfolding list_checked row
tells_short list b e w = rw e refl

tells_list : (list : List Pair) (b : Slices) → too_short b (length list) ≡ false → Tells list b (written true 0 list b) (says (length list))
unfolding list_checked row
tells_list list b e w =
    let room = long_enough b (length list) e in
    rw (e, written_holding list b room.0 room.1) refl

none_short : (b : Slices) → too_short b 0 ≡ false
unfolding too_short
none_short b = rw (le-ltb (length b.earlier) 0 (omega arith), le-ltb (length b.later) 0 (omega arith))

tells_none : (b : Slices) → Tells [] b b (says 0)
unfolding written
tells_none b = tells_list [] b (none_short b)

-- ---- counted, and then written

rest_past : {n : ℕ} {entry exit : List ℕ} → SameFrom TABLES entry exit → Rest n entry exit
rest_past same = rest_beyond (same_beyond (omega arith) same)

module _ {kinds operands entry one : List ℕ} {b b₁ : Slices} {count : ℕ} (counted : PassSays kinds operands entry one false b b₁ count) where
  abbrev all : List Pair
  all = racing kinds operands entry (length kinds)

  slices_left : b₁ ≡ b
  unfolding written
  slices_left = counted.slices

  pub list_empty : count ≡ 0 → ListSays kinds operands entry one b b₁ (says 0)
  list_empty none =
      let empty = no_length all (sym counted.counted ∙ none) in
      record { rest = rest_past counted.beyond; told = λ w. rw (slices_left, empty) (tells_none b w) }

  module _ (short : Bool) (tested : short ≡ too_short b₁ count) where
    short_is : short ≡ too_short b (length all)
    short_is = rw (← slices_left, ← counted.counted) tested

    pub list_short : (reply : Reply ℕ) → short ≡ true → reply ≡ refused 20 0 → ListSays kinds operands entry one b b₁ reply
    list_short reply e said =
        record {
          rest = rest_past counted.beyond;
          told = λ w. rw (slices_left, said) (tells_short all b (sym short_is ∙ e) w);
        }

    pub fits_writing : short ≡ false → Fits true (length (racing kinds operands one (length kinds))) b₁
    fits_writing e =
        let room = long_enough b (length all) (sym short_is ∙ e) in
        rw (racing_same counted.beyond kinds operands (length kinds), slices_left)
        (record { earlier = λ asked. room.0; later = λ asked. room.1 })

    pub list_written :
        {two : List ℕ} {b₂ : Slices} {count₂ : ℕ} → short ≡ false → PassSays kinds operands one two true b₁ b₂ count₂
        → ListSays kinds operands entry two b b₂ (says count)
    list_written e wrote =
        record {
          rest = rest_trans (rest_past counted.beyond) (rest_past wrote.beyond);
          told = λ w.
              rw (wrote.slices, racing_same counted.beyond kinds operands (length kinds), slices_left, counted.counted)
              (tells_list all b (sym short_is ∙ e) w);
        }

-- ---- where no access races

pub none_past : (found : Option ℕ) (n : ℕ) → is_some found ≡ false → unwrap_or found n ≡ n
none_past None n e = refl
none_past (Some t) n e = absurd (false≢true (sym e))

module _ {kinds operands entry one : List ℕ} {from first : ℕ} (lent : Listable kinds operands entry from)
    (found : FirstRace kinds operands (own_number kinds entry) (length kinds) first) (kept : SameFrom SCAN-TABLES entry one) where
  past : SameFrom TABLES entry one
  past = same_from_higher (omega arith) kept

  pub list_none : (b : Slices) → first ≡ length kinds → ListSays kinds operands entry one b b (says 0)
  list_none b none =
      let empty : racing kinds operands entry (length kinds) ≡ [] =
      below_none (race_by kinds operands (own_number kinds entry)) (length kinds)
      (λ s t h i. tests_false _ (test_race_by kinds operands (own_number kinds entry) s t i) (found.none_before s t (omega arith))) in
      record { rest = rest_past past; told = λ w. rw empty (tells_none b w) }

  -- Else each event gets its number: what `spread` asks,
  pub spread_asks : SegmentsIn kinds (length kinds) one × (WORKSPACE_CELLS + length kinds ≤ length one)
  spread_asks = ((numbered_same (omega arith) kept lent.numbered).segments_in, omega (arith, lent.room, kept.long))

  module _ {two : List ℕ} (spread : Spread kinds (length kinds) one two) where
    -- and that the segments' cells are as they were.
    number_kept : (p : ℕ) → p < length kinds → own_number kinds two p ≡ own_number kinds one p
    number_kept = spread_own spread_asks.0 spread

    pub spread_ready : Ready kinds operands two from
    spread_ready =
        let n = numbered_same (omega arith) kept lent.numbered in
        record {
          listable =
              record {
                few = lent.few;
                of_operands = lent.of_operands;
                numbered =
                    record {
                      of_operands = n.of_operands;
                      segments_in = spread_segments n.segments_in spread;
                      locations = n.locations;
                      within = n.within;
                      leading = n.leading;
                    };
                room = omega (arith, lent.room, kept.long, spread.long);
              };
          spread = λ p h. spread.filled p h ∙ sym (number_kept p h);
        }

    pub list_spread : {exit : List ℕ} {b b' : Slices} {reply : Reply ℕ} → ListSays kinds operands two exit b b' reply → ListSays kinds operands entry exit b b' reply
    list_spread told =
        let same : racing kinds operands two (length kinds) ≡ racing kinds operands entry (length kinds) =
        below_agree (race_by kinds operands (own_number kinds two)) (race_by kinds operands (own_number kinds one)) (length kinds)
        (λ s t h i.
        race_by_same kinds operands (own_number kinds two) s t (own_number kinds one) (number_kept s (omega arith)) (number_kept t h))
        ∙ racing_same past kinds operands (length kinds) in
        record {
          rest =
              record {
                long = told.rest.long ∙ (spread.long ∙ kept.long);
                same = λ i h. told.rest.same i h ∙ (spread.same i (inr (omega arith)) ∙ kept.same i (omega arith));
              };
          told = λ w. rw (← same) (told.told w);
        }

-- ---- in the documents' terms

module _ {kinds tasks operands entry ordered : List ℕ} {events : ℕ} {broken : Option Row} (lent : Sized kinds tasks operands entry (length kinds))
    (ranked : RankSays kinds (trace_of kinds tasks operands) (length kinds) entry ordered events broken) where
  abbrev tr : Trace
  tr = trace_of kinds tasks operands

  -- An event breaks a rule.
  pub gather_broken :
      (row : Row) (b : Slices) (reply : Reply ℕ) → broken ≡ Some row → reply ≡ refused (row_number row) events → GatherSays tr (length kinds) entry ordered b b reply
  unfolding listing
  gather_broken row b reply met said =
      let says = ranked.rules.met row met in
      let first = says.1 in
      let after = line_more halt_operand tr events first.line first.kept_before ∙ first.broken in
      let met-there : line_after halt_operand tr (length kinds) ≡ fails (row_number row) =
      fails_later halt_operand tr (suc events) (length kinds) (row_number row) says.0 after in
      record { rest = ranked.rest; told = λ w. rw (met-there, ← ranked.rules.graph, said) refl }

  module _ (none : broken ≡ None) where
    whole : events ≡ length kinds
    whole = (ranked.rules.none_met none).0

    -- What the list asks.
    pub gather_listable : {leading : ℕ} → (leading ≤ events) × Leading kinds leading → Listable kinds operands ordered leading
    gather_listable {leading} lead =
        record {
          few = lent.few;
          of_operands = lent.of_operands;
          numbered = subst (λ (n : ℕ). Numbered kinds operands ordered leading n) whole (numbered_ranked lent ranked lead);
          room = omega (arith, lent.room, ranked.rest.long);
        }

    -- By the numbers it is the list of K7.
    close_is_racing : close_pairs tr (length kinds) ≡ racing kinds operands ordered (length kinds)
    unfolding close_pairs
    close_is_racing =
        let numbers : Numbers tr (length kinds) (own_number kinds ordered) = rw whole at ranked.numbers in
        below_agree (race? tr (length kinds)) (race_by kinds operands (own_number kinds ordered)) (length kinds)
        (λ s t h i.
        tests_unique _ _ (test_race tr (length kinds) numbers.forward s t)
        (tests_map (of_trace kinds tasks operands (length kinds) (own_number kinds ordered) numbers s t h)
        (by_number kinds tasks operands (length kinds) (own_number kinds ordered) numbers s t i)
        (test_race_by kinds operands (own_number kinds ordered) s t i)))

    pub gather_list : {exit : List ℕ} {b b' : Slices} {reply : Reply ℕ} → ListSays kinds operands ordered exit b b' reply → GatherSays tr (length kinds) entry exit b b' reply
    unfolding listing
    gather_list list =
        let kept = (ranked.rules.none_met none).1 in
        record {
          rest = rest_trans ranked.rest list.rest;
          told = λ w. rw (kept.reached, listing, close_is_racing) (list.told w);
        }
