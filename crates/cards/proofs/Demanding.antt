-- The judge with cards keeps the owner's demands: past row 16 it answers and leaves what the judge does. Assumes nothing.
use Prim.Native.Nat.{ℕ, ◌≤◌, ◌<◌}
use mathlib.Core.Path.{◌≡◌, refl, sym, ap, ◌∙◌}
use mathlib.Core.List.{List}
use mathlib.Core.Logic.{◌⊎◌, inl, inr}
use native.Mathlib.Omega.{arith}
use lib.ListN.{length}
use Rattle.trace.specs.Trace.{trace_of, LOCATIONS}
use Rattle.trace.specs.Line.{Checked, passes}
use Rattle.trace.specs.Outcome.{says, refused, clean, sizes, order_room, Outcome, judge_checked}
use Rattle.trace.specs.Demands.{JudgeDemand3, JudgeLinks}
use Rattle.chains.proofs.Reported.{links_checked}
use Rattle.trace.proofs.Tests.{either, lt_or_le}
use Rattle.trace.proofs.Lines.{by_check, passes_not_fails}
use Rattle.trace.proofs.Sizes.{sized_first, refused_not_says, says_sized}
use Rattle.trace.proofs.Demand1.{judge_demand_1}
use Rattle.trace.proofs.Demand2.{demand_2_checked}
use Rattle.trace.proofs.Demand3.{demand_3_checked}
use Rattle.told.specs.Codes.{heard, heard_links, judge_call, judge_seen}
use Rattle.told.proofs.Heard.{seen_heard, seen_links, seen_workspace, seen_first, seen_second}
use Rattle.cards.specs.declared.Card.{Card}
use Rattle.cards.specs.Cards.{cards_after, card_sizes, judged_with, CardsCall, cards_outcome, cards_call, cards_seen}
use Rattle.cards.specs.Demands.{CardsHeld, FewRecords, CardsDemand1, few_records, as_judged, CardsDemand2}
use Rattle.cards.proofs.Meaning.{cards_held}
use Rattle.cards.proofs.Counting.{few_sizes, same_sizes, judged_same}

module _ (kinds tasks operands workspace first second : List ℕ) (cards : List Card) where
  abbrev checks : Checked ℕ
  checks = order_room first second (sizes kinds tasks operands workspace)

  abbrev Few : Type 0
  Few = FewRecords kinds tasks operands workspace first second cards

  abbrev o : Outcome
  o = judged_with kinds tasks operands workspace first second (length cards)

  -- Row 16 is met, or not.
  few_or_not : Few ⊎ (Few → ⊥)
  few_or_not =
      by_check checks
      (λ n e.
      either (lt_or_le (length cards) LOCATIONS) (λ few. inl (record { events = n; others_pass = e; few = few }))
      (λ enough. inr (λ f. let few = f.few in omega arith)))
      (λ number e. inr (λ f. passes_not_fails f.others_pass e))

  not_few : (Few → ⊥) → (n : ℕ) → checks ≡ passes n → LOCATIONS ≤ length cards
  not_few unmet n e = let few : length cards < LOCATIONS → ⊥ = λ l. unmet (record { events = n; others_pass = e; few = l }) in omega arith

  -- Where the sizes pass, those of the judge do.
  sizes_passed : (n : ℕ) → card_sizes kinds tasks operands workspace first second (length cards) ≡ passes n → checks ≡ passes n
  sizes_passed n e =
      either few_or_not
      (λ f. absurd (passes_not_fails e (few_sizes kinds tasks operands workspace first second (length cards) f.events f.others_pass f.few)))
      (λ unmet. sym (same_sizes kinds tasks operands workspace first second (length cards) (not_few unmet)) ∙ e)

  few_refused : Few → o.answer ≡ refused 16 0
  unfolding judged_with judge_checked
  few_refused f = rw (few_sizes kinds tasks operands workspace first second (length cards) f.events f.others_pass f.few)

  -- Where the answer is clean, there are records enough.
  clean_enough : o.answer ≡ says clean → LOCATIONS ≤ length cards
  clean_enough e =
      either few_or_not (λ f. absurd (refused_not_says (few_refused f) e))
      (λ unmet.
      let same = judged_same kinds tasks operands workspace first second (length cards) (not_few unmet) in
      let passed = says_sized kinds tasks operands workspace first second (sym (ap (λ (z : Outcome). z.answer) same) ∙ e) in
      not_few unmet passed.0 passed.1)

  -- DEMAND 1.
  few_met : Few → CardsDemand1 kinds tasks operands workspace first second cards o.answer o.workspace o.first o.second
  unfolding judged_with judge_checked
  few_met f =
      rw (few_sizes kinds tasks operands workspace first second (length cards) f.events f.others_pass f.few)
      (few_records f refl refl refl refl)

  cards_demand_1 : CardsDemand1 kinds tasks operands workspace first second cards o.answer o.workspace o.first o.second
  cards_demand_1 =
      either few_or_not few_met
      (λ unmet.
      as_judged unmet
      (rw (judged_same kinds tasks operands workspace first second (length cards) (not_few unmet)) (judge_demand_1 kinds tasks operands workspace first second)))

  -- DEMAND 2.
  cards_demand_2 : CardsDemand2 kinds tasks operands workspace first second cards o.answer
  unfolding judged_with
  cards_demand_2 =
      record { past_sizes = λ n e. demand_2_checked kinds tasks operands workspace first second (card_sizes kinds tasks operands workspace first second (length cards)) n e }

  whole : (n : ℕ) → card_sizes kinds tasks operands workspace first second (length cards) ≡ passes n → length kinds ≡ n
  whole n e = (sized_first kinds tasks operands workspace first second n (sizes_passed n e)).of_kinds

  -- DEMAND 3.
  cards_demand_3 : JudgeDemand3 kinds tasks operands o.answer first second o.first o.second
  unfolding judged_with
  cards_demand_3 =
      demand_3_checked kinds tasks operands workspace first second (card_sizes kinds tasks operands workspace first second (length cards)) whole

  -- The number of links beside the answer.
  cards_links : JudgeLinks kinds tasks operands o.answer o.links
  unfolding judged_with
  cards_links = links_checked kinds tasks operands workspace first second (card_sizes kinds tasks operands workspace first second (length cards)) whole

module _ (kinds tasks operands workspace first second : List ℕ) (cards : List Card) (code : ℕ) (values w a b : List ℕ) (records : List Card) where
  -- What the judge with cards promises a C caller.
  abbrev pub CardsPromised : Type 0
  CardsPromised =
      (cards_seen code values w a b records ≡ cards_call (cards_outcome kinds tasks operands workspace first second cards))
      × (CardsHeld (trace_of kinds tasks operands) (length kinds) (heard code values) cards records
      × (CardsDemand1 kinds tasks operands workspace first second cards (heard code values) w a b
      × (CardsDemand2 kinds tasks operands workspace first second cards (heard code values)
      × (JudgeDemand3 kinds tasks operands (heard code values) first second a b
      × JudgeLinks kinds tasks operands (heard code values) (heard_links values)))))

  pub promised : cards_seen code values w a b records ≡ cards_call (cards_outcome kinds tasks operands workspace first second cards) → CardsPromised
  unfolding cards_call cards_outcome
  promised e =
      let o : Outcome = judged_with kinds tasks operands workspace first second (length cards) in
      let seen : judge_seen code values w a b ≡ judge_call o = ap (λ (c : CardsCall). c.call) e in
      let held : records ≡ cards_after o.answer (trace_of kinds tasks operands) (length kinds) cards = ap (λ (c : CardsCall). c.cards) e in (
        e,
        rw (seen_heard o seen, seen_links o seen, seen_workspace o seen, seen_first o seen, seen_second o seen, held) (
          cards_held (trace_of kinds tasks operands) (length kinds) o.answer cards (clean_enough kinds tasks operands workspace first second cards),
          (
            cards_demand_1 kinds tasks operands workspace first second cards,
            (
              cards_demand_2 kinds tasks operands workspace first second cards,
              (cards_demand_3 kinds tasks operands workspace first second cards, cards_links kinds tasks operands workspace first second cards),
            ),
          ),
        ),
      )
