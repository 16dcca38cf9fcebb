-- The judge for a caller who lends so many records: row 16, the judge's own answer, and the tables after clean. Assumes nothing.
use Prim.Native.Nat.{ℕ, ◌+◌, ◌≤◌, ◌<◌}
use mathlib.Core.Path.{◌≡◌, refl, sym, ap, subst, ◌∙◌}
use mathlib.Core.Bool.{Bool, true, false, false≢true}
use mathlib.Core.List.{List, [], ◌∷◌}
use mathlib.Core.Logic.{◌≢◌, ◌↔◌}
use Rattle.std.specs.Prelude.{Result, Ok, Err}
use Rattle.std.specs.Result.{is_ok}
use native.Mathlib.Omega.{arith}
use lib.ListN.{length, get_or}
use borrow.Author.Tests.{lt-ltb, le-ltb}
use Rattle.trace.specs.Trace.{trace_of, is_access, LOCATIONS, WORKSPACE_CELLS}
use Rattle.trace.specs.Line.{Checked, passes, fails, row, halt_operand}
use Rattle.trace.specs.Outcome.{Reply, says, refused, Verdict, clean, race, sizes, order_room, cleared, Outcome, judge_checked, judge_outcome}
use Rattle.trace.specs.declared.Row.{Row}
use Rattle.trace.specs.Rows.{row_number}
use Rattle.trace.proofs.Tests.{either, lt_or_le}
use Rattle.trace.proofs.Lines.{by_check, passes_not_fails, located}
use Rattle.trace.proofs.Sizes.{Sized, sized_first, says_sized, order_room_row}
use Rattle.trace.proofs.Demand2.{judge_demand_2}
use Rattle.cells.specs.Cells.{zeroed}
use Rattle.cells.proofs.Zeroed.{zeroed_length, zeroed_below, zeroed_cleared}
use Rattle.sizes.specs.Rows.{checked}
use Rattle.chains.proofs.Reported.{links_checked, judge_links_law}
use Rattle.told.specs.Codes.{Told, judge_told, judge_call, judge_seen}
use Rattle.told.proofs.Heard.{seen_said, seen_workspace, seen_first, seen_second}
use Rattle.cards.specs.Cards.{card_room, card_sizes, judged_with}
use Rattle.cards.specs.Tally.{Tallied, untasked, Tallyable, LeftAfter, Counted}

-- ---- answers and what is left

-- Clean is the answer that has the code 0.
pub told_zero : (reply : Reply Verdict) (links : ℕ) → (judge_told reply links).code ≡ 0 → reply ≡ says clean
unfolding judge_told
told_zero (says clean) links e = refl
told_zero (says (race s t)) links e = absurd (omega arith)
told_zero (refused number position) links e = absurd (omega arith)

told_clean_code : (links : ℕ) → (judge_told (says clean) links).code ≡ 0
unfolding judge_told
told_clean_code links = refl

-- After any other the cells are those that are asked for.
left_other : (reply : Reply Verdict) → reply ≢ says clean → (kinds operands : List ℕ) (records : ℕ) (w c : List ℕ) → c ≡ w
    → LeftAfter reply kinds operands records w c
left_other (says clean) other kinds operands records w c e = absurd (other refl)
left_other (says (race s t)) other kinds operands records w c e = e
left_other (refused number position) other kinds operands records w c e = e

-- ---- row 16

module _ (kinds tasks operands workspace first second : List ℕ) (records : ℕ) where
  abbrev checks : Checked ℕ
  checks = order_room first second (sizes kinds tasks operands workspace)

  abbrev o : Outcome
  o = judged_with kinds tasks operands workspace first second records

  abbrev judged : Outcome
  judged = judge_outcome kinds tasks operands workspace first second

  -- It is met where rows 1 to 4 pass and there are too few records.
  pub few_sizes : (n : ℕ) → checks ≡ passes n → records < LOCATIONS → card_sizes kinds tasks operands workspace first second records ≡ fails 16
  unfolding card_sizes card_room row
  few_sizes n e few = rw (e, lt-ltb records LOCATIONS few)

  -- Where it is not, the sizes are those of the judge.
  pub same_sizes : ((n : ℕ) → checks ≡ passes n → LOCATIONS ≤ records) → card_sizes kinds tasks operands workspace first second records ≡ checks
  unfolding card_sizes card_room row
  same_sizes enough = by_check checks (λ n e. rw (e, le-ltb records LOCATIONS (enough n e))) (λ number e. rw e)

  -- A row that they meet is none of the cards'.
  not_met : (number : ℕ) → checks ≡ fails number → card_sizes kinds tasks operands workspace first second records ≡ fails 16 → ⊥
  unfolding card_sizes card_room
  not_met number met t =
      let between = order_room_row kinds tasks operands workspace first second number met in
      let same : ◌≡◌ {A = Checked ℕ} (fails number) (fails 16) = rw met at t in
      let sixteen : number ≡ 16 = cc in
      omega (arith, between)

  pub judged_same : ((n : ℕ) → checks ≡ passes n → LOCATIONS ≤ records) → o ≡ judged
  unfolding judged_with judge_outcome
  judged_same enough = ap (judge_checked kinds tasks operands workspace first second) (same_sizes enough)

  -- The sizes fail by row 16 where too few records meet what passes rows 1 to 4,
  pub few_asked :
      (result : Result (Unit {0}) Row) → checked (length kinds) result ≡ checks → records < LOCATIONS
      → (is_ok result ≡ true) ↔ (card_sizes kinds tasks operands workspace first second records ≡ fails 16)
  few_asked (Ok done) e few = (λ t. few_sizes (length kinds) (sym e) few, λ t. refl)
  few_asked (Err met) e few = (λ t. absurd (false≢true t), λ t. absurd (not_met (row_number met) (sym e) t))

  -- and by none where there are enough.
  pub few_enough : LOCATIONS ≤ records → (false ≡ true) ↔ (card_sizes kinds tasks operands workspace first second records ≡ fails 16)
  few_enough enough = (
    λ t. absurd (false≢true t),
    λ t.
        let met : checks ≡ fails 16 = sym (same_sizes (λ n e. enough)) ∙ t in
        absurd (omega (arith, order_room_row kinds tasks operands workspace first second 16 met)),
  )

  module _ (few : Bool) (e : (few ≡ true) ↔ (card_sizes kinds tasks operands workspace first second records ≡ fails 16)) where
    -- `judge_counted` refuses by row 16:
    pub counted_few : few ≡ true → Counted kinds tasks operands records o (judge_seen 2 (16 ∷ 0 ∷ 0 ∷ []) workspace first second)
    unfolding judged_with judge_checked judge_told
    counted_few f =
        let met = e.0 f in
        rw met (record {
          said = refl;
          chains = links_checked kinds tasks operands workspace first second (fails 16) (λ n q. absurd (passes_not_fails q refl));
          of_first = refl;
          of_second = refl;
          cells = refl;
        })

    -- or lets the judge answer.
    module _ (f : few ≡ false) where
      enough : (n : ℕ) → checks ≡ passes n → LOCATIONS ≤ records
      enough n passed = either (lt_or_le records LOCATIONS) (λ l. absurd (false≢true (sym f ∙ e.1 (few_sizes n passed l)))) (λ h. h)

      module _ (code : ℕ) (values w a b : List ℕ) (seen : judge_seen code values w a b ≡ judge_call judged) where
        code_is : code ≡ (judge_told judged.answer judged.links).code
        code_is = ap (λ (t : Told). t.code) (seen_said judged seen)

        answer_clean : code ≡ 0 → judged.answer ≡ says clean
        answer_clean zero = told_zero judged.answer judged.links (sym code_is ∙ zero)

        -- Any answer but clean is the call's.
        pub counted_other : code ≢ 0 → Counted kinds tasks operands records o (judge_seen code values w a b)
        counted_other nonzero =
            let other : judged.answer ≢ says clean = λ q. nonzero (code_is ∙ (ap (λ (r : Reply Verdict). (judge_told r judged.links).code) q ∙ told_clean_code judged.links)) in
            rw (judged_same enough)
            (record {
              said = seen_said judged seen;
              chains = judge_links_law kinds tasks operands workspace first second;
              of_first = seen_first judged seen;
              of_second = seen_second judged seen;
              cells = left_other judged.answer other kinds operands records judged.workspace w (seen_workspace judged seen);
            })

        -- After clean the workspace is cleared, and the locations are ones: it can be tallied into.
        module _ (zero : code ≡ 0) where
          passed : (n : ℕ) × (checks ≡ passes n)
          passed = says_sized kinds tasks operands workspace first second (answer_clean zero)

          size : Sized kinds tasks operands workspace passed.0
          size = sized_first kinds tasks operands workspace first second passed.0 passed.1

          left_cleared : (c : Checked ℕ) (n : ℕ) → c ≡ passes n → (judge_checked kinds tasks operands workspace first second c).workspace ≡ cleared n workspace
          unfolding judge_checked
          left_cleared c n q = rw q

          is_cleared : w ≡ zeroed (WORKSPACE_CELLS + passed.0) workspace
          unfolding judge_outcome
          is_cleared =
              seen_workspace judged seen ∙ (left_cleared checks passed.0 passed.1 ∙ sym (zeroed_cleared passed.0 workspace))

          in_range : (p : ℕ) → p < passed.0 → is_access (get_or kinds p 0) ≡ true → get_or operands p 0 < LOCATIONS
          unfolding trace_of
          in_range p below access =
              let kept = (((judge_demand_2 kinds tasks operands workspace first second).past_sizes passed.0 passed.1).clean_iff.0 (answer_clean zero)).keeps_rules in
              located halt_operand (trace_of kinds tasks operands) passed.0 kept.line kept.reached p below access

          pub counted_asks : Tallyable kinds operands w
          counted_asks =
              let s = size in
              let whole = s.of_kinds in
              let all = s.of_operands in
              let few = s.few in
              let room = s.room in
              let long : length w ≡ length workspace = ap length is_cleared ∙ zeroed_length (WORKSPACE_CELLS + passed.0) workspace room in
              record {
                of_operands = all ∙ sym whole;
                few = omega arith;
                room = omega arith;
                zeros = λ i l.
                    ap (λ (z : List ℕ). get_or z i 0) is_cleared ∙ zeroed_below (WORKSPACE_CELLS + passed.0) workspace i (omega arith);
                locations = λ p l access. in_range p (omega arith) access;
              }

          pub counted_clean : (d : List ℕ) → Tallied (untasked kinds operands) (length kinds) w d
              → Counted kinds tasks operands records o (judge_seen code values d a b)
          counted_clean d tallied =
              rw (judged_same enough)
              (record {
                said = seen_said judged seen;
                chains = judge_links_law kinds tasks operands workspace first second;
                of_first = seen_first judged seen;
                of_second = seen_second judged seen;
                cells =
                    subst (λ (r : Reply Verdict). LeftAfter r kinds operands records judged.workspace d) (sym (answer_clean zero))
                    (subst (λ (z : List ℕ). LeftAfter (says clean) kinds operands records z d) (seen_workspace judged seen)
                    (record { enough = enough passed.0 passed.1; before = counted_asks; tallied = tallied }));
              })
