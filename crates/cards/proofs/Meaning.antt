-- What K1 demands of a card and of the records is what the outcome has; and the cards of a run, and row 16, computed. Assumes nothing.
use Prim.Native.Nat.{ℕ, ◌<◌, ◌≤◌}
use mathlib.Core.Path.{◌≡◌, refl, sym, ◌∙◌}
use mathlib.Core.Bool.{true, false, true≢false}
use mathlib.Core.List.{List, [], ◌∷◌}
use mathlib.Core.Option.{Option, none, some}
use native.Mathlib.Omega.{arith}
use lib.ListN.{length}
use Rattle.trace.specs.Trace.{Trace, trace_of, is_access, LOCATIONS}
use Rattle.trace.specs.Line.{passes, fails, row}
use Rattle.trace.specs.Search.{least_below, greatest_below, count_below}
use Rattle.trace.specs.Outcome.{Reply, says, refused, Verdict, clean, race}
use Rattle.trace.proofs.Sizes.{refused_not_says}
use Rattle.trace.proofs.Tests.{LeastIs, least_is, GreatestIs, greatest_is, either, lt_or_le}
use Rattle.cards.specs.declared.Card.{Card}
use Rattle.cards.specs.Cards.{accesses, touches, NOWHERE, or_nowhere, card_of, cards_after, card_room}
use Rattle.cards.specs.Demands.{CardSays, CardsHeld}
use Rattle.cards.proofs.Records.{with_length, with_at, with_past}

race_not_clean : {s t : ℕ} → ◌≡◌ {A = Reply Verdict} (says (race s t)) (says clean) → ⊥
race_not_clean e = let z : ◌≡◌ {A = ℕ} 0 1 = cc e in omega arith

module _ (tr : Trace) (n l : ℕ) where
  first_none : (o : Option ℕ) → LeastIs n (touches tr l) o → ((p : ℕ) → p < n → touches tr l p ≡ false) → or_nowhere o ≡ NOWHERE
  unfolding or_nowhere
  first_none none is never = refl
  first_none (some s) is never = absurd (true≢false (sym is.passed ∙ never s is.below))

  last_none : (o : Option ℕ) → GreatestIs n (touches tr l) o → ((p : ℕ) → p < n → touches tr l p ≡ false) → or_nowhere o ≡ NOWHERE
  unfolding or_nowhere
  last_none none is never = refl
  last_none (some s) is never = absurd (true≢false (sym is.passed ∙ never s is.below))

  first_some : (o : Option ℕ) → LeastIs n (touches tr l) o → (p : ℕ) → p < n → touches tr l p ≡ true → (or_nowhere o ≤ p) × (touches tr l (or_nowhere o) ≡ true)
  unfolding or_nowhere
  first_some none is p h t = absurd (true≢false (sym t ∙ is p h))
  first_some (some s) is p h t =
      (either (lt_or_le p s) (λ before. absurd (true≢false (sym t ∙ is.none_before p before))) (λ after. after), is.passed)

  last_some : (o : Option ℕ) → GreatestIs n (touches tr l) o → (p : ℕ) → p < n → touches tr l p ≡ true
      → (p ≤ or_nowhere o) × (or_nowhere o < n) × (touches tr l (or_nowhere o) ≡ true)
  unfolding or_nowhere
  last_some none is p h t = absurd (true≢false (sym t ∙ is p h))
  last_some (some s) is p h t =
      (either (lt_or_le s p) (λ after. absurd (true≢false (sym t ∙ is.none_after p after h))) (λ before. before), is.below, is.passed)

  pub card_says : CardSays tr n l (card_of tr n l)
  unfolding card_of
  card_says =
      let least = least_is n (touches tr l) in
      let greatest = greatest_is n (touches tr l) in
      record {
        reads = refl;
        writes = refl;
        sums = refl;
        untouched = λ never. (first_none (least_below n (touches tr l)) least never, last_none (greatest_below n (touches tr l)) greatest never);
        first_touches = first_some (least_below n (touches tr l)) least;
        last_touches = last_some (greatest_below n (touches tr l)) greatest;
      }

-- What K1 demands holds of the records that the outcome asks for.
pub cards_held : (tr : Trace) (n : ℕ) (answer : Reply Verdict) (cards : List Card) → (answer ≡ says clean → LOCATIONS ≤ length cards)
    → CardsHeld tr n answer cards (cards_after answer tr n cards)
unfolding cards_after
cards_held tr n (says clean) cards enough =
    let room = enough refl in
    record {
      enough = enough;
      when_clean = λ e l s. rw (with_at (card_of tr n) LOCATIONS cards room l s) (card_says tr n l);
      other_verdicts = λ other. absurd (other refl);
      past = λ l s. with_past (card_of tr n) LOCATIONS cards room l s;
      one_length = with_length (card_of tr n) LOCATIONS cards room;
    }
cards_held tr n (says (race s t)) cards enough =
    record { enough = enough; when_clean = λ e. absurd (race_not_clean e); other_verdicts = λ other. refl; past = λ l h. refl; one_length = refl }
cards_held tr n (refused number position) cards enough =
    record {
      enough = enough;
      when_clean = λ e. absurd (refused_not_says refl e);
      other_verdicts = λ other. refl;
      past = λ l h. refl;
      one_length = refl;
    }

-- ---- computed

-- Document 01's run in which a sibling joins the reader: 0 fork 1, 1 read 7, 1 halt, 0 read 7, 0 fork 2, 2 join 1, 2 halt, 0 join 2, 0 write 7;
-- and behind it 0 sum 7.
abbrev run : Trace
run =
    trace_of (2 ∷ 0 ∷ 4 ∷ 0 ∷ 2 ∷ 3 ∷ 4 ∷ 3 ∷ 1 ∷ 5 ∷ []) (0 ∷ 1 ∷ 1 ∷ 0 ∷ 0 ∷ 2 ∷ 2 ∷ 0 ∷ 0 ∷ 0 ∷ [])
    (1 ∷ 7 ∷ 0 ∷ 7 ∷ 2 ∷ 1 ∷ 0 ∷ 2 ∷ 7 ∷ 7 ∷ [])

-- Location 7 is read twice, written once and added to once, by events 1 to 9. Location 2 is the operand of a fork and of a join, and nothing touches it.
pub cards_as_expected :
    (card_of run 10 7 ≡ record { reads = 2; writes = 1; sums = 1; first = 1; last = 9 })
    × (card_of run 10 2 ≡ record { reads = 0; writes = 0; sums = 0; first = NOWHERE; last = NOWHERE })
unfolding card_of accesses touches or_nowhere least_below greatest_below count_below trace_of is_access
cards_as_expected = (refl, refl)

-- Row 16: 1,023 records are too few and 1,024 are enough; a row that was met before stays.
pub rooms_as_expected : (card_room 1023 (passes 9) ≡ fails 16) × (card_room 1024 (passes 9) ≡ passes 9) × (card_room 0 (fails 4) ≡ fails 4)
unfolding card_room row
rooms_as_expected = (refl, refl, refl)
