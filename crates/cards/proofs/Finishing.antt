-- The call with the records themselves: what is due fits (`call_fits`), and once the cards are stored and the tables wiped the call has its outcome and keeps the
-- demands (`call_done`). The proof of the C function rests on these two. Assumes nothing.
use Prim.Native.Nat.{ℕ, ◌≤◌}
use mathlib.Core.Path.{◌≡◌, refl, sym, ap, ◌∙◌}
use mathlib.Core.List.{List}
use native.Mathlib.Omega.{arith}
use lib.ListN.{length}
use lib.Seq.{ext_get_or}
use Rattle.trace.specs.Trace.{Trace, trace_of, LOCATIONS}
use Rattle.trace.specs.Outcome.{Reply, says, refused, Verdict, clean, race, Outcome}
use Rattle.trace.proofs.Tests.{either, lt_or_le}
use Rattle.cells.specs.Cells.{zeroed}
use Rattle.cells.proofs.Zeroed.{zeroed_length, zeroed_below, zeroed_beyond}
use Rattle.told.specs.Codes.{Told, judge_told, judge_call, judge_seen}
use Rattle.cards.specs.declared.Card.{Card}
use Rattle.cards.specs.Cards.{card_of, with_cards, cards_after, judged_with, cards_outcome, cards_call, cards_seen}
use Rattle.cards.specs.Tally.{TALLY_CELLS, TablesFilled, LeftAfter, Counted, card_in, due_after, Tables, wiped}
use Rattle.cards.proofs.Leaves.{due_clean, due_other, wipe_none, wipe_all}
use Rattle.cards.proofs.Tallying.{card_is}
use Rattle.cards.proofs.Records.{with_none, with_same}
use Rattle.cards.proofs.Demanding.{CardsPromised, promised}

-- Filled tables, cleared again, are as they were.
cleared_again : {kinds operands w c : List ℕ} {records : ℕ} → TablesFilled kinds operands records w c → zeroed TALLY_CELLS c ≡ w
cleared_again {w = w} {c = c} f =
    let room = f.before.room in
    let long = f.tallied.long in
    let all : length (zeroed TALLY_CELLS c) ≡ length w = zeroed_length TALLY_CELLS c (omega arith) ∙ long in
    ext_get_or 0 (zeroed TALLY_CELLS c) w all
    (λ i l.
    either (lt_or_le i TALLY_CELLS) (λ low. zeroed_below TALLY_CELLS c i low ∙ sym (f.before.zeros i low))
    (λ high. zeroed_beyond TALLY_CELLS c i high ∙ f.tallied.rest i high))

-- ---- by the answer

module _ (kinds tasks operands w c : List ℕ) (cards : List Card) where
  abbrev tr : Trace
  tr = trace_of kinds tasks operands

  -- What is due fits; the tables wiped, the workspace is w; and the records hold what they must.
  pub record Finished (reply : Reply Verdict) (k : ℕ) : Type 0 where
    pub fits : k ≤ length cards
    pub tables : Tables c k
    pub workspace : wiped k c ≡ w
    pub records : with_cards (card_in c) k cards ≡ cards_after reply tr (length kinds) cards

  finished_clean : (k : ℕ) → k ≡ LOCATIONS → TablesFilled kinds operands (length cards) w c → Finished (says clean) k
  unfolding cards_after
  finished_clean k e f =
      let enough = f.enough in
      let room = f.before.room in
      let long = f.tallied.long in
      record {
        fits = omega arith;
        tables = record { few = omega arith; room = λ l. omega arith };
        workspace = sym (wipe_all k c _ (λ z. omega arith) refl) ∙ cleared_again f;
        records =
            with_same (card_in c) (card_of tr (length kinds)) k cards
            (λ l s. card_is kinds tasks operands (length kinds) w c f.tallied l (omega arith))
            ∙ ap (λ (m : ℕ). with_cards (card_of tr (length kinds)) m cards) e;
      }

  finished_none : (reply : Reply Verdict) (k : ℕ) → k ≡ 0 → c ≡ w → cards ≡ cards_after reply tr (length kinds) cards → Finished reply k
  finished_none reply k e same kept =
      record {
        fits = omega arith;
        tables = record { few = omega arith; room = λ l. absurd (omega arith) };
        workspace = sym (wipe_none k c e) ∙ same;
        records = ap (λ (m : ℕ). with_cards (card_in c) m cards) e ∙ (with_none (card_in c) cards ∙ kept);
      }

  finished : (reply : Reply Verdict) (links code : ℕ) → code ≡ (judge_told reply links).code → LeftAfter reply kinds operands (length cards) w c
      → Finished reply (due_after code)
  unfolding judge_told cards_after
  finished (says clean) links code e left = finished_clean (due_after code) (sym (due_clean code e)) left
  finished (says (race s t)) links code e left = finished_none _ (due_after code) (sym (due_other code (omega arith))) left refl
  finished (refused number position) links code e left = finished_none _ (due_after code) (sym (due_other code (omega arith))) left refl

-- ---- the call

module _ (kinds tasks operands workspace first second : List ℕ) (cards : List Card) (code : ℕ) (values c a b : List ℕ)
    (h : Counted kinds tasks operands (length cards) (judged_with kinds tasks operands workspace first second (length cards)) (judge_seen code values c a b)) where
  abbrev o : Outcome
  o = judged_with kinds tasks operands workspace first second (length cards)

  end : Finished kinds tasks operands o.workspace c cards o.answer (due_after code)
  end = finished kinds tasks operands o.workspace c cards o.answer o.links code (ap (λ (t : Told). t.code) h.said) h.cells

  module _ (k : ℕ) (e : k ≡ due_after code) where
    -- What `put_cards` and `wipe` ask for.
    pub call_fits : (k ≤ length cards) × Tables c k
    call_fits = rw e (end.fits, end.tables)

    call_is : cards_seen code values (wiped k c) a b (with_cards (card_in c) k cards) ≡ cards_call (cards_outcome kinds tasks operands workspace first second cards)
    unfolding cards_call cards_outcome judge_call
    call_is = rw e (cc (h.said, end.workspace, h.of_first, h.of_second, end.records))

    -- What it promises.
    pub call_done : (w : List ℕ) → w ≡ wiped k c → (records : List Card) → records ≡ with_cards (card_in c) k cards
        → CardsPromised kinds tasks operands workspace first second cards code values w a b records
    call_done w q records r =
        promised kinds tasks operands workspace first second cards code values w a b records
        (ap (λ (z : List ℕ). cards_seen code values z a b records) q
        ∙ (ap (λ (z : List Card). cards_seen code values (wiped k c) a b z) r ∙ call_is))
