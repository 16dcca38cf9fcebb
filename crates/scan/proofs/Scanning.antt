-- The loop of `first_race`: what holds before each turn, and what it found. Assumes nothing.
use Prim.Native.Nat.{ℕ, suc, ◌+◌, ◌<◌, ◌≤◌}
use mathlib.Core.Path.{◌≡◌, refl, sym, ap, subst, fun_ext, ◌∙◌}
use mathlib.Core.Bool.{Bool, true, false, true≢false}
use mathlib.Core.List.{List}
use mathlib.Core.Logic.{◌↔◌}
use native.Mathlib.Omega.{arith}
use native.Mathlib.Numerals.{add-one}
use lib.ListN.{length, get_or}
use Rattle.trace.specs.Trace.{FORK, is_kind, is_access, WORKSPACE_CELLS}
use Rattle.trace.proofs.Tests.{either, last_or_below}
use Rattle.cells.specs.Cells.{zeroed, SameFrom}
use Rattle.cells.proofs.Zeroed.{zeroed_length, zeroed_below, zeroed_beyond}
use Rattle.cells.proofs.Rests.{same_from_trans}
use Rattle.segments.specs.Segments.{moves, segment}
use Rattle.segments.proofs.SegmentFacts.{moves_rise}
use Rattle.ranks.specs.Lists.{NEXT, SEGMENTS}
use Rattle.ranks.specs.States.{kinds_only, own_number}
use Rattle.ranks.proofs.Ranking.{access_segment, moves_on, moves_more, leading_moves, leading_zero}
use Rattle.scan.specs.Numbered.{Numbered, RaceByNumber, FirstRace}
use Rattle.scan.specs.Tables.{FOR_READS, TABLES, Tables, held_against, Testable, Calm, TestSays}
use Rattle.scan.proofs.Largest.{keeps_passed, keeps_beyond, calm_kept, tables_none, tables_move, tables_kept, race_by_table}

-- Where the segments' cells are as they were, they hold the same numbers.
pub numbers_same :
    {base : ℕ} {c d : List ℕ} (kinds : List ℕ) → base ≤ NEXT → SameFrom base c d → (p : ℕ) → own_number kinds d p ≡ own_number kinds c p
numbers_same kinds low same p = same.same (NEXT + segment (kinds_only kinds) p) (omega arith)

pub numbered_same :
    {base : ℕ} {kinds operands c d : List ℕ} {from events : ℕ} → base ≤ NEXT → SameFrom base c d → Numbered kinds operands c from events
    → Numbered kinds operands d from events
numbered_same low same lent =
    let ready = lent.segments_in in
    let long = same.long in
    let room = ready.room in
    record {
      of_operands = lent.of_operands;
      segments_in =
          record {
            within = ready.within;
            named = ready.named;
            few = ready.few;
            room = omega arith;
            zero = same.same (NEXT + 0) (omega arith) ∙ ready.zero;
          };
      locations = lent.locations;
      within = lent.within;
      leading = lent.leading;
    }

-- Before each turn the tables hold the largest numbers of the first t events, and none of these races with an earlier one; `current` counts the moves among
-- them, and `number` is that of the open segment. Kinds below `quick`, if there are any, have one table to ask. The cells were `start` where the loop began, and
-- the numbers still stand there.
pub record Scanning (kinds operands : List ℕ) (from events : ℕ) (start c : List ℕ) (current number quick t : ℕ) : Type 0 where
  pub within : t ≤ events
  pub counts : current ≡ moves (kinds_only kinds) t
  pub opened : number ≡ get_or start (NEXT + current) 0
  pub numbered : Numbered kinds operands start from events
  pub beyond : SameFrom TABLES start c
  pub tables : Tables kinds operands (own_number kinds start) t c
  pub limit : quick ≤ FORK
  pub calm : 0 < quick → Calm c
  pub none : (p q : ℕ) → q < t → RaceByNumber kinds operands (own_number kinds start) p q → ⊥

-- Event r is the first that races, by the numbers of `start`, and they still stand in `c`, whose tables hold the largest ones of the events before r.
abbrev Found : List ℕ → List ℕ → ℕ → List ℕ → List ℕ → ℕ → Type 0
Found kinds operands events start c r =
    FirstRace kinds operands (own_number kinds start) events r × (SameFrom TABLES start c × Tables kinds operands (own_number kinds start) r c)

module _ (kinds operands : List ℕ) (from events : ℕ) where
  -- It begins with cleared tables.
  module _ (entry start : List ℕ) (e : start ≡ zeroed TABLES entry) (lent : Numbered kinds operands entry from events) where
    begun_beyond : SameFrom TABLES entry start
    begun_beyond =
        let room = lent.segments_in.room in
        rw e (record { long = zeroed_length TABLES entry (omega arith); same = λ i h. zeroed_beyond TABLES entry i h })

    begun_numbers : (p : ℕ) → own_number kinds start p ≡ own_number kinds entry p
    begun_numbers p = numbers_same kinds (omega arith) begun_beyond p

    cleared_cell : (i : ℕ) → i < TABLES → get_or start i 0 ≡ 0
    cleared_cell i h = rw e (zeroed_below TABLES entry i h)

    pub scan_begin : Scanning kinds operands from events start start 0 0 FORK from
    scan_begin =
        let ready = lent.segments_in in
        let zeros : (p : ℕ) → p < from → own_number kinds start p ≡ 0 =
        λ p h. begun_numbers p ∙ leading_zero kinds entry from p ready.zero lent.leading h in
        let long = begun_beyond.long in
        let room = ready.room in
        record {
          within = lent.within;
          counts = sym (leading_moves kinds from lent.leading);
          opened = sym (begun_beyond.same (NEXT + 0) (omega arith) ∙ ready.zero);
          numbered = numbered_same (omega arith) begun_beyond lent;
          beyond = record { long = refl; same = λ i h. refl };
          tables = tables_none kinds operands (own_number kinds start) from start cleared_cell zeros;
          limit = omega arith;
          calm = λ some l low. omega (arith, cleared_cell (FOR_READS + l) (omega arith));
          none = λ p q h r. let i = r.before in let s = r.smaller in absurd (omega (arith, zeros p (omega arith)));
        }

    -- What is found is said of the cells at entry.
    pub scan_answer : (c : List ℕ) (r : ℕ) → Found kinds operands events start c r → Found kinds operands events entry c r
    scan_answer c r f =
        let beyond = f.1.0 in (
          subst (λ (number : ℕ → ℕ). FirstRace kinds operands number events r) (fun_ext begun_numbers) f.0,
          (
            same_from_trans begun_beyond beyond,
            subst (λ (number : ℕ → ℕ). Tables kinds operands number r c) (fun_ext begun_numbers) f.1.1,
          ),
        )

  module _ {start c : List ℕ} {current number quick t : ℕ} (s : Scanning kinds operands from events start c current number quick t) where
    pub scan_end : events ≤ t → Found kinds operands events start c t
    scan_end h = (record { within = s.within; none_before = s.none; race = λ i. absurd (omega arith) }, (s.beyond, s.tables))

    pub scan_none : events ≤ t → Found kinds operands events start c events
    scan_none h =
        let within = s.within in
        let all : t ≡ events = omega arith in
        subst (λ (r : ℕ). Found kinds operands events start c r) all (scan_end h)

    -- The open segment has a cell.
    pub scan_few : current < SEGMENTS
    scan_few =
        let e = s.counts in
        let few = s.numbered.segments_in.few in
        omega (arith, moves_rise (kinds_only kinds) t events s.within)

    pub scan_room : WORKSPACE_CELLS ≤ length c
    scan_room = let long = s.beyond.long in let room = s.numbered.segments_in.room in omega arith

    module _ (inside : t < events) where
      -- Event t races with none.
      none_next : ((p : ℕ) → RaceByNumber kinds operands (own_number kinds start) p t → ⊥) →
          (p q : ℕ) → q < suc t → RaceByNumber kinds operands (own_number kinds start) p q → ⊥
      none_next at p q h r = either (last_or_below q t h) (λ e. at p (rw e at r)) (λ i. s.none p q i r)

      -- Below `quick` stand reads and writes.
      pub scan_quick : get_or kinds t 0 < quick → (get_or kinds t 0 < FORK) × Calm c
      scan_quick h = let limit = s.limit in (omega arith, s.calm (omega arith))

      -- Each kind is one that the documents name.
      pub scan_named : is_kind (get_or kinds t 0) ≡ true
      scan_named = s.numbered.segments_in.named t inside

      module _ (move : is_access (get_or kinds t 0) ≡ false) where
        -- The next segment has one too.
        pub scan_next : current + 1 < SEGMENTS
        scan_next =
            let e = s.counts in
            let few = s.numbered.segments_in.few in
            omega (arith, moves_more kinds t move, moves_rise (kinds_only kinds) (suc t) events inside)

        pub scan_move :
            (next : ℕ) → next ≡ get_or c (NEXT + (current + 1)) 0 → Scanning kinds operands from events start c (current + 1) next quick (t + 1)
        scan_move next read =
            let few = scan_next in
            rw (add-one t)
            (record {
              within = omega arith;
              counts = add-one current ∙ (ap suc s.counts ∙ sym (moves_more kinds t move));
              opened = read ∙ s.beyond.same (NEXT + (current + 1)) (omega arith);
              numbered = s.numbered;
              beyond = s.beyond;
              tables = tables_move kinds operands (own_number kinds start) t c move s.tables;
              limit = s.limit;
              calm = s.calm;
              none = none_next (λ p r. true≢false (sym r.access ∙ move));
            })

      module _ (access : is_access (get_or kinds t 0) ≡ true) where
        abbrev k : ℕ
        k = get_or kinds t 0

        abbrev l : ℕ
        l = get_or operands t 0

        pub scan_testable : Testable c k l
        scan_testable =
            record { access = access; location = s.numbered.locations t inside access; room = let room = scan_room in omega arith }

        own : number ≡ own_number kinds start t
        own = s.opened ∙ ap (λ (g : ℕ). get_or start (NEXT + g) 0) (s.counts ∙ sym (access_segment kinds t access))

        told : (number < held_against c k l) ↔ ((p : ℕ) × RaceByNumber kinds operands (own_number kinds start) p t)
        told =
            let f = scan_testable in
            rw own (race_by_table kinds operands (own_number kinds start) t c f.room access f.location s.tables)

        -- It passed and was kept: in the loop's quick way, where there was no sum, or not.
        module _ (d : List ℕ) (says : TestSays c d k l number true) where
          kept_with : (quick' : ℕ) → quick' ≤ FORK → (0 < quick' → Calm d) → Scanning kinds operands from events start d current number quick' (t + 1)
          kept_with quick' limit calm =
              let f = scan_testable in
              let kept = keeps_passed c k l number f says.0 in
              let o = own in
              rw (add-one t)
              (record {
                within = omega arith;
                counts = s.counts ∙ sym (moves_on kinds t access);
                opened = s.opened;
                numbered = s.numbered;
                beyond = rw says.1 (same_from_trans s.beyond (keeps_beyond f.location kept));
                tables = tables_kept kinds operands (own_number kinds start) t c f.room access f.location s.tables d (rw (says.1, ← o) kept);
                limit = limit;
                calm = calm;
                none = none_next (λ p r. let h = told.1 (p, r) in omega arith);
              })

        pub scan_quick_kept :
            (d : List ℕ) (r : Bool) → k < quick → r ≡ true → TestSays c d k l number r → Scanning kinds operands from events start d current number quick (t + 1)
        scan_quick_kept d false low e says = absurd (true≢false (sym e))
        scan_quick_kept d true low e says =
            let f = scan_testable in
            let limit = s.limit in
            kept_with d says quick limit
            (λ some. rw says.1 (calm_kept c l number k access (λ q. omega arith) f.room f.location says.0 (s.calm some)))

        pub scan_kept : (d : List ℕ) (r : Bool) → r ≡ true → TestSays c d k l number r → Scanning kinds operands from events start d current number 0 (t + 1)
        scan_kept d false e says = absurd (true≢false (sym e))
        scan_kept d true e says = kept_with d says 0 (omega arith) (λ some. absurd (omega arith))

        -- It races.
        pub scan_race : (d : List ℕ) (r : Bool) → r ≡ false → TestSays c d k l number r → Found kinds operands events start d t
        scan_race d true e says = absurd (true≢false e)
        scan_race d false e says =
            let lower = says.0 in
            (record { within = s.within; none_before = s.none; race = λ h. told.0 (omega arith) }, rw says.1 (s.beyond, s.tables))
