-- The loop over the events: what holds before each, and that in the end all pairs are counted or written. Assumes nothing.
use Prim.Native.Nat.{ℕ, suc, ◌+◌, ◌-◌, ◌<◌, ◌≤◌}
use mathlib.Core.Path.{◌≡◌, refl, sym, ap, fun_ext, ◌∙◌}
use mathlib.Core.Bool.{Bool, true, false, true≢false}
use mathlib.Core.List.{List, [], append-nil}
use mathlib.Core.Logic.{inl, inr, ◌≢◌}
use native.Mathlib.Omega.{arith}
use native.Mathlib.Numerals.{add-one}
use lib.ListN.{length, get_or, set, length-set}
use lib.Seq.{get_or-set_same, get_or-set_other}
use Rattle.trace.specs.Trace.{is_access, LOCATIONS}
use Rattle.trace.proofs.Tests.{by_test, either, same_or_not, last_or_below, tests_false}
use Rattle.cells.specs.Cells.{Filled, SameFrom, NUMBER, number_in}
use Rattle.cells.proofs.Rests.{same_from_refl, same_from_trans, same_from_higher}
use Rattle.ranks.specs.States.{own_number}
use Rattle.scan.specs.Numbered.{RaceByNumber, FirstRace}
use Rattle.scan.specs.Tables.{TABLES as SCAN-TABLES, Tables, RaceSays, held_against}
use Rattle.scan.proofs.Largest.{keeps_tested, tables_same, tables_move, tables_kept, race_by_table}
use Rattle.scan.proofs.Scanning.{numbers_same, numbered_same}
use Rattle.pairs.specs.Pairs.{pairs_at, pairs_below, Slices}
use Rattle.pairs.specs.Close.{race_by, SEEN, Seen, written, Fits, close_in, Visitable, Taken, VisitSays, TABLES, Ready, Begun, racing, PassSays}
use Rattle.pairs.proofs.Partners.{test_race_by, race_by_same}
use Rattle.pairs.proofs.PairLists.{at_none, at_agree, below_next, below_length, below_few, below_grows, below_none, written_none, written_more}
use Rattle.pairs.proofs.PairLists.{written_lengths}
use Rattle.pairs.proofs.Visiting.{visit_testable}

-- ---- cells past the tables

module _ {c d : List ℕ} (same : SameFrom TABLES c d) where
  own_same : (kinds : List ℕ) → own_number kinds d ≡ own_number kinds c
  own_same kinds = fun_ext (numbers_same kinds (omega arith) same)

  -- Where they are as they were, the pairs are the same,
  pub racing_same : (kinds operands : List ℕ) (t : ℕ) → racing kinds operands d t ≡ racing kinds operands c t
  racing_same kinds operands t = ap (λ (number : ℕ → ℕ). pairs_below (race_by kinds operands number) t) (own_same kinds)

  -- and a pass can be made.
  pub ready_same : {kinds operands : List ℕ} {from : ℕ} → Ready kinds operands c from → Ready kinds operands d from
  ready_same {kinds} ready =
      let r = ready.listable in
      let long = same.long in
      let room = r.room in
      record {
        listable =
            record { few = r.few; of_operands = r.of_operands; numbered = numbered_same (omega arith) same r.numbered; room = omega arith };
        spread = λ p h.
            same.same (NUMBER + p) (omega arith) ∙ (ready.spread p h ∙ sym (numbers_same kinds (omega arith) same p));
      }

-- ---- before each event

-- The tables, and the pairs of the events before t, where `start` was the cells when the loop began and b the slices.
pub record Passing (kinds operands start c : List ℕ) (write : Bool) (b b' : Slices) (count t : ℕ) : Type 0 where
  pub within : t ≤ length kinds
  pub beyond : SameFrom TABLES start c
  pub tables : Tables kinds operands (own_number kinds start) t c
  pub seen : Seen kinds operands t c
  pub counted : count ≡ length (racing kinds operands start t)
  pub held : b' ≡ written write 0 (racing kinds operands start t) b

module _ (kinds operands : List ℕ) where
  -- Behind `first_race` and `forget` a pass begins.
  pub begun :
      {entry one start : List ℕ} (r : ℕ) → FirstRace kinds operands (own_number kinds entry) (length kinds) r → SameFrom SCAN-TABLES entry one
      → Tables kinds operands (own_number kinds entry) r one → Filled SEEN LOCATIONS (λ l. r) one start → Begun kinds operands entry start r
  begun {entry} {one} {start} r found kept tables filled =
      record {
        beyond =
            same_from_trans (same_from_higher (omega arith) kept) (record { long = filled.long; same = λ i h. filled.same i (inr (omega arith)) });
        first = found;
        tables = tables_same kinds operands (own_number kinds entry) r one start (λ i h. filled.same i (inl (omega arith))) tables;
        seen = filled.filled;
      }

module _ (kinds operands : List ℕ) {from : ℕ} where
  -- Before r, where it begins, there are no pairs.
  module _ {entry start : List ℕ} {r : ℕ} (ready : Ready kinds operands entry from) (b : Begun kinds operands entry start r) where
    -- A pass can be made from there,
    pub begun_ready : Ready kinds operands start from
    begun_ready = ready_same b.beyond ready

    pub begun_fits :
        {write : Bool} {slices : Slices} → Fits write (length (racing kinds operands entry (length kinds))) slices
        → Fits write (length (racing kinds operands start (length kinds))) slices
    begun_fits fits = rw (racing_same b.beyond kinds operands (length kinds)) fits

    pub passing_begins : (write : Bool) (slices : Slices) → Passing kinds operands start start write slices slices 0 r
    passing_begins write slices =
        let same = own_same b.beyond kinds in
        let none : racing kinds operands start r ≡ [] =
        racing_same b.beyond kinds operands r
        ∙ below_none (race_by kinds operands (own_number kinds entry)) r
        (λ s t h i. tests_false _ (test_race_by kinds operands (own_number kinds entry) s t i) (b.first.none_before s t h)) in
        record {
          within = b.first.within;
          beyond = same_from_refl TABLES start;
          tables = rw same b.tables;
          seen =
              record {
                within = λ l low. omega (arith, b.seen l low);
                none_since = λ l p low far less access e. omega (arith, b.seen l low);
              };
          counted = rw none refl;
          held = rw none (written_none write 0 slices);
        }

  module _ {start c : List ℕ} {write : Bool} {b b' : Slices} {count t : ℕ} (ready : Ready kinds operands start from)
      (p : Passing kinds operands start c write b b' count t) where
    -- The numbers in the events' cells are those of the segments.
    number_is : (q : ℕ) → q < length kinds → number_in c q ≡ own_number kinds start q
    number_is q h = p.beyond.same (NUMBER + q) (omega arith) ∙ ready.spread q h

    module _ (inside : t < length kinds) where
      close_is : close_in kinds operands c t ≡ pairs_at (race_by kinds operands (own_number kinds start)) t
      close_is =
          at_agree (race_by kinds operands (number_in c)) t (race_by kinds operands (own_number kinds start))
          (λ s h. race_by_same kinds operands (number_in c) s t (own_number kinds start) (number_is s (omega arith)) (number_is t inside))

      -- Event t can be looked at.
      pub passing_visitable : Fits write (length (racing kinds operands start (length kinds))) b → Visitable kinds operands c write b' count t
      passing_visitable fits =
          let r = ready.listable in
          let room = r.room in
          let long = p.beyond.long in
          let test = race_by kinds operands (own_number kinds start) in
          let few = below_few test t in
          let counted = p.counted in
          let e : t + 1 + (length kinds - (t + 1)) ≡ length kinds = omega arith in
          let all : count + length (close_in kinds operands c t) ≤ length (racing kinds operands start (length kinds)) =
          omega
          (arith, ap length close_is, below_length test t, below_grows test (t + 1) (length kinds - (t + 1)), ap length (ap (pairs_below test) e)) in
          let lengths = written_lengths write 0 (racing kinds operands start t) b in
          let held = p.held in
          record {
            inside = inside;
            of_operands = r.of_operands;
            few = r.few;
            room = omega arith;
            location = r.numbered.locations t inside;
            seen = p.seen;
            small = omega arith;
            fits =
                record {
                  earlier = λ asked. let h = fits.earlier asked in rw held (omega (arith, lengths.0));
                  later = λ asked. let h = fits.later asked in rw held (omega (arith, lengths.1));
                };
          }

      -- Where it races with none, it has no pairs.
      no_pairs : ((s : ℕ) → RaceByNumber kinds operands (own_number kinds start) s t → ⊥) → racing kinds operands start (t + 1) ≡ racing kinds operands start t
      no_pairs none =
          let test = race_by kinds operands (own_number kinds start) in
          below_next test t
          ∙ rw (at_none test t (λ s h. tests_false _ (test_race_by kinds operands (own_number kinds start) s t h) (none s))) (append-nil (pairs_below test t))

      module _ {exit : List ℕ} {b'' : Slices} {next : ℕ} where
        passing_move :
            is_access (get_or kinds t 0) ≡ false → (exit ≡ c) × (next ≡ count) × (b'' ≡ b') → Passing kinds operands start exit write b b'' next (t + 1)
        passing_move move says =
            let none = no_pairs (λ s r. true≢false (sym r.access ∙ move)) in
            record {
              within = omega arith;
              beyond = rw says.0 p.beyond;
              tables = rw (says.0, add-one t) (tables_move kinds operands (own_number kinds start) t c move p.tables);
              seen =
                  rw says.0
                  (record {
                    within = λ l low. omega (arith, p.seen.within l low);
                    none_since = λ l q low far less access.
                        either (last_or_below q t (omega arith)) (λ e. absurd (true≢false (sym access ∙ (ap (λ (i : ℕ). is_access (get_or kinds i 0)) e ∙ move))))
                        (λ h. p.seen.none_since l q low far h access);
                  });
              counted = rw (says.1, none) p.counted;
              held = rw (says.2, none) p.held;
            }

        module _ (access : is_access (get_or kinds t 0) ≡ true) (kept : List ℕ) (r : Bool)
            (fits : Fits write (length (racing kinds operands start (length kinds))) b)
            (says : RaceSays c kept (get_or kinds t 0) (get_or operands t 0) (number_in c t) r)
            (stored : exit ≡ set kept (SEEN + get_or operands t 0) (t + 1)) where
          passing_kept :
              next ≡ length (racing kinds operands start (t + 1)) → b'' ≡ written write 0 (racing kinds operands start (t + 1)) b
              → Passing kinds operands start exit write b b'' next (t + 1)
          passing_kept counted held =
              let v = passing_visitable fits in
              let f = visit_testable v access in
              let kept-says = keeps_tested c kept _ _ _ r f says in
              let o = get_or operands t 0 in
              let location = f.location in
              let long = kept-says.long in
              let long' = p.beyond.long in
              let room = v.room in
              let elsewhere : (i : ℕ) → i ≢ SEEN + o → get_or exit i 0 ≡ get_or kept i 0 = λ i d. rw stored (get_or-set_other kept (SEEN + o) i (t + 1) 0 d) in
              record {
                within = omega arith;
                beyond =
                    record {
                      long = rw stored (length-set kept (SEEN + o) (t + 1) ∙ (kept-says.long ∙ p.beyond.long));
                      same = λ i h.
                          elsewhere i (λ e. omega arith) ∙ (kept-says.away i (λ e. omega arith) (λ e. omega arith) ∙ p.beyond.same i h);
                    };
                tables =
                    rw (add-one t)
                    (tables_same kinds operands (own_number kinds start) (suc t) kept exit (λ i h. elsewhere i (λ e. omega arith))
                    (tables_kept kinds operands (own_number kinds start) t c f.room access location p.tables kept (rw (← number_is t inside) kept-says)));
                seen =
                    record {
                      within = λ l low.
                          either (same_or_not l o)
                          (λ e. rw (e, stored) (omega (arith, get_or-set_same kept (SEEN + o) (t + 1) 0 (omega arith))))
                          (λ d.
                          omega
                          (arith, elsewhere (SEEN + l) (λ e. d (omega arith)), kept-says.away (SEEN + l) (λ e. omega arith) (λ e. omega arith), p.seen.within l low));
                      none_since = λ l q low far less acts.
                          either (same_or_not l o)
                          (λ e.
                          let cell : get_or exit (SEEN + l) 0 ≡ t + 1 = rw (e, stored) (get_or-set_same kept (SEEN + o) (t + 1) 0 (omega arith)) in
                          absurd (omega arith))
                          (λ d.
                          let cell = elsewhere (SEEN + l) (λ e. d (omega arith)) ∙ kept-says.away (SEEN + l) (λ e. omega arith) (λ e. omega arith) in
                          either (last_or_below q t (omega arith)) (λ e same. d (sym same ∙ ap (λ (i : ℕ). get_or operands i 0) e))
                          (λ h. p.seen.none_since l q low (omega arith) h acts));
                    };
                counted = counted;
                held = held;
              }

          passing_raced : Taken kinds operands c write b' b'' count next t → Passing kinds operands start exit write b b'' next (t + 1)
          passing_raced taken =
              let test = race_by kinds operands (own_number kinds start) in
              let counted = p.counted in
              passing_kept (omega (arith, taken.0, ap length close_is, below_length test t))
              (taken.1
              ∙ rw (close_is, p.held, below_next test t)
              (written_more write (pairs_below test t) (pairs_at test t) b count p.counted))

          passing_quiet : (r ≡ false) → (next ≡ count) × (b'' ≡ b') → Passing kinds operands start exit write b b'' next (t + 1)
          passing_quiet quiet same =
              let f = visit_testable (passing_visitable fits) access in
              let told = race_by_table kinds operands (own_number kinds start) t c f.room access f.location p.tables in
              let low : held_against c (get_or kinds t 0) (get_or operands t 0) ≤ own_number kinds start t = rw (← number_is t inside) (quiet_held r quiet says) in
              let none = no_pairs (λ s race. let h = told.1 (s, race) in omega arith) in
              passing_kept (rw (same.0, none) p.counted) (rw (same.1, none) p.held)
            where
              quiet_held :
                  (r : Bool) → r ≡ false → RaceSays c kept (get_or kinds t 0) (get_or operands t 0) (number_in c t) r
                  → held_against c (get_or kinds t 0) (get_or operands t 0) ≤ number_in c t
              quiet_held true e says = absurd (true≢false e)
              quiet_held false e says = says.0

        -- After it.
        pub passing_next :
            Fits write (length (racing kinds operands start (length kinds))) b → VisitSays kinds operands c exit write b' b'' count next t
            → Passing kinds operands start exit write b b'' next (t + 1)
        passing_next fits says =
            by_test (is_access (get_or kinds t 0))
            (λ access.
            let w = says.access access in
            by_test w.1 (λ raced. passing_raced access w.0 w.1 fits w.2 w.3 (w.4 raced))
            (λ quiet. passing_quiet access w.0 w.1 fits w.2 w.3 quiet (w.5 quiet)))
            (λ move. passing_move move (says.move move))

    -- After the last.
    pub passing_ends : length kinds ≤ t → PassSays kinds operands start c write b b' count
    passing_ends end =
        let within = p.within in
        let e : t ≡ length kinds = omega arith in
        record { beyond = p.beyond; counted = rw (← e) p.counted; slices = rw (← e) p.held }

-- The same of the cells at entry.
pub pass_says_entry :
    {kinds operands entry start exit : List ℕ} {write : Bool} {b b' : Slices} {count : ℕ} → SameFrom TABLES entry start
    → PassSays kinds operands start exit write b b' count → PassSays kinds operands entry exit write b b' count
pass_says_entry {kinds} {operands} same says =
    let e = racing_same same kinds operands (length kinds) in
    record { beyond = same_from_trans same says.beyond; counted = rw (← e) says.counted; slices = rw (← e) says.slices }
