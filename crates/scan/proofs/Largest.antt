-- The tables hold the largest numbers: what one event changes in them, and that they tell whether an access races. Assumes nothing.
use Prim.Native.Nat.{ℕ, suc, max, ◌+◌, ◌-◌, ◌*◌, ◌<◌, ◌≤◌}
use mathlib.Core.Path.{◌≡◌, refl, sym, ◌∙◌}
use mathlib.Core.Bool.{Bool, true, false, true≢false}
use mathlib.Core.List.{List}
use mathlib.Core.Logic.{◌⊎◌, inl, inr, ◌≢◌, ◌↔◌}
use native.Mathlib.Omega.{arith}
use lib.ListN.{length, get_or, set, length-set}
use lib.Seq.{get_or-set_same, get_or-set_other}
use Rattle.trace.specs.Trace.{READ, WRITE, SUM, is_access, LOCATIONS}
use Rattle.trace.specs.Race.{conflicting}
use Rattle.trace.proofs.Tests.{by_test, either, same_or_not, lt_or_le, last_or_below}
use Rattle.trace.proofs.EventKinds.{test_access}
use Rattle.trace.proofs.Conflicts.{test_conflicting}
use Rattle.cells.specs.Cells.{SameFrom}
use Rattle.scan.specs.Numbered.{Against, RaceByNumber}
use Rattle.scan.specs.Tables.{FOR_READS, FOR_SUMS, TABLES, Largest, Tables, first_held, held_against, Testable, Calm, raised}
use Rattle.scan.specs.Tables.{stored_in, kept_in, TestSays, raised_in, raced_in, RaceSays}
use Rattle.scan.proofs.Kept.{kept_read, kept_write, kept_sum, kept_long, stored_apart, kept_other}

-- ---- what an access is held against, kind by kind

held_read : (c : List ℕ) (l : ℕ) → held_against c READ l ≡ get_or c (FOR_READS + l) 0
unfolding held_against conflicting
held_read c l = omega arith

held_write : (c : List ℕ) (l : ℕ) → held_against c WRITE l ≡ max (get_or c (FOR_SUMS + l) 0) (get_or c (FOR_READS + l) 0)
unfolding held_against conflicting
held_write c l = refl

held_sum : (c : List ℕ) (l : ℕ) → held_against c SUM l ≡ get_or c (FOR_SUMS + l) 0
unfolding held_against conflicting
held_sum c l = omega arith

-- ---- the cells of an access that is kept, kind by kind

module _ (c : List ℕ) (o x : ℕ) where
  module _ (room : TABLES ≤ length c) (location : o < LOCATIONS) where
    stored_first : (first second : ℕ) → first ≤ FOR_SUMS → second ≤ FOR_SUMS → get_or (stored_in c first second o x) (first + o) 0 ≡ raised c first o x
    unfolding stored_in
    stored_first first second h i =
        let long = length-set c (first + o) (raised c first o x) in
        either (same_or_not first second)
        (λ e. rw (← e) (get_or-set_same (set c (first + o) (raised c first o x)) (first + o) (raised c first o x) 0 (omega arith)))
        (λ d.
        get_or-set_other (set c (first + o) (raised c first o x)) (second + o) (first + o) (raised c first o x) 0 (λ q. d (omega arith))
        ∙ get_or-set_same c (first + o) (raised c first o x) 0 (omega arith))

    stored_second : (first second : ℕ) → second ≤ FOR_SUMS → get_or (stored_in c first second o x) (second + o) 0 ≡ raised c first o x
    unfolding stored_in
    stored_second first second h =
        get_or-set_same (set c (first + o) (raised c first o x)) (second + o) (raised c first o x) 0
        (omega (arith, length-set c (first + o) (raised c first o x)))

    -- A write or a sum that passed is kept in FOR-READS, and a read or a write that passed in FOR-SUMS.
    read_leaves : get_or (kept_in c READ o x) (FOR_READS + o) 0 ≡ get_or c (FOR_READS + o) 0
    read_leaves = rw (kept_read c o x) (stored_apart c o x FOR_SUMS FOR_SUMS (FOR_READS + o) (omega arith) (omega arith))

    write_kept : held_against c WRITE o ≤ x → get_or (kept_in c WRITE o x) (FOR_READS + o) 0 ≡ raised c FOR_READS o x
    write_kept quiet = let held = held_write c o in rw (kept_write c o x) (stored_second FOR_SUMS FOR_READS (omega arith) ∙ omega arith)

    sum_kept : get_or (kept_in c SUM o x) (FOR_READS + o) 0 ≡ raised c FOR_READS o x
    sum_kept = rw (kept_sum c o x) (stored_second FOR_READS FOR_READS (omega arith))

    read_kept : get_or (kept_in c READ o x) (FOR_SUMS + o) 0 ≡ raised c FOR_SUMS o x
    read_kept = rw (kept_read c o x) (stored_second FOR_SUMS FOR_SUMS (omega arith))

    write_kept_too : get_or (kept_in c WRITE o x) (FOR_SUMS + o) 0 ≡ raised c FOR_SUMS o x
    write_kept_too = rw (kept_write c o x) (stored_first FOR_SUMS FOR_READS (omega arith) (omega arith))

    sum_leaves : get_or (kept_in c SUM o x) (FOR_SUMS + o) 0 ≡ get_or c (FOR_SUMS + o) 0
    sum_leaves = rw (kept_sum c o x) (stored_apart c o x FOR_READS FOR_READS (FOR_SUMS + o) (omega arith) (omega arith))

-- ---- what the functions return and leave

-- The first table of a read or a write, by a product.
module _ (r w : ℕ) (read : r ≡ first_held READ) (write : w ≡ first_held WRITE) where
  pub quick_order : r ≤ w
  unfolding conflicting
  quick_order = omega arith

  pub quick_is : (k : ℕ) → is_access k ≡ true → k ≢ SUM → (r + (w - r) * k ≡ first_held k) × (r + (w - r) * k ≤ FOR_SUMS)
  unfolding conflicting
  quick_is k access other =
      rw (read, write)
      (either ((test_access k).0 access) (λ e. rw e (refl, omega arith)) (λ b. either b (λ e. rw e (refl, omega arith)) (λ e. absurd (other e))))

module _ (c : List ℕ) (k l x : ℕ) where
  -- A read or a write where no sum has been kept.
  module _ (ready : Testable c k l × (k ≢ SUM)) (table : ℕ) (is : table ≡ first_held k) where
    of_read : k ≡ READ → get_or c (table + l) 0 ≡ get_or c (FOR_READS + l) 0
    unfolding conflicting
    of_read e = rw (is, e)

    of_write : k ≡ WRITE → get_or c (table + l) 0 ≡ get_or c (FOR_SUMS + l) 0
    unfolding conflicting
    of_write e = rw (is, e)

    pub quick_back : (b : ℕ) → x < b → b ≡ get_or c (table + l) 0 → TestSays c c k l x false
    quick_back b low read =
        either ((test_access k).0 ready.0.access) (λ e. let asked = of_read e in rw e (omega (arith, held_read c l), refl))
        (λ o.
        either o (λ e. let asked = of_write e in rw e (omega (arith, held_write c l), refl)) (λ e. absurd (ready.1 e)))

    pub quick_passed :
        (b : ℕ) (d : List ℕ) → Calm c → b ≤ x → b ≡ get_or c (table + l) 0 → d ≡ stored_in c FOR_SUMS (FOR_SUMS - table) l x → TestSays c d k l x true
    unfolding conflicting
    quick_passed b d calm high read stored =
        either ((test_access k).0 ready.0.access)
        (λ e. let asked = of_read e in rw e (omega (arith, held_read c l), (rw (is, e) at stored) ∙ sym (kept_read c l x)))
        (λ o.
        either o
        (λ e.
        let asked = of_write e in
        rw e (omega (arith, held_write c l, calm l ready.0.location), (rw (is, e) at stored) ∙ sym (kept_write c l x)))
        (λ e. absurd (ready.1 e)))

-- The cell v of those that conflict with kind k becomes v' where an access of kind j with number x is kept.
abbrev Raises : ℕ → ℕ → ℕ → ℕ → ℕ → Type 0
Raises j k x v v' = (conflicting j k ≡ true → v' ≡ max v x) × (conflicting j k ≡ false → v' ≡ v)

raises : (j k x v v' : ℕ) → conflicting j k ≡ true → v' ≡ max v x → Raises j k x v v'
raises j k x v v' conflict e = (λ t. e, λ f. absurd (true≢false (sym conflict ∙ f)))

leaves : (j k x v v' : ℕ) → conflicting j k ≡ false → v' ≡ v → Raises j k x v v'
leaves j k x v v' apart e = (λ t. absurd (true≢false (sym t ∙ apart)), λ f. e)

module _ (c : List ℕ) (o x j : ℕ) (access : is_access j ≡ true) (room : TABLES ≤ length c) (location : o < LOCATIONS) (quiet : held_against c j o ≤ x) where
  raises_for_reads : Raises j READ x (get_or c (FOR_READS + o) 0) (get_or (kept_in c j o x) (FOR_READS + o) 0)
  unfolding conflicting
  raises_for_reads =
      either ((test_access j).0 access) (λ e. rw e (leaves READ READ x _ _ refl (read_leaves c o x room location)))
      (λ b.
      either b (λ e. rw e (raises WRITE READ x _ _ refl (write_kept c o x room location (rw e at quiet))))
      (λ e. rw e (raises SUM READ x _ _ refl (sum_kept c o x room location))))

  raises_for_sums : Raises j SUM x (get_or c (FOR_SUMS + o) 0) (get_or (kept_in c j o x) (FOR_SUMS + o) 0)
  unfolding conflicting
  raises_for_sums =
      either ((test_access j).0 access) (λ e. rw e (raises READ SUM x _ _ refl (read_kept c o x room location)))
      (λ b.
      either b (λ e. rw e (raises WRITE SUM x _ _ refl (write_kept_too c o x room location)))
      (λ e. rw e (leaves SUM SUM x _ _ refl (sum_leaves c o x room location))))

-- An access of kind j to location o with number x is kept: in each table its location's cell rises where it conflicts with those that the table is for, and
-- no other cell has changed.
pub record Keeps (c d : List ℕ) (j o x : ℕ) : Type 0 where
  pub long : length d ≡ length c
  pub for_reads : Raises j READ x (get_or c (FOR_READS + o) 0) (get_or d (FOR_READS + o) 0)
  pub for_sums : Raises j SUM x (get_or c (FOR_SUMS + o) 0) (get_or d (FOR_SUMS + o) 0)
  pub away : (i : ℕ) → i ≢ FOR_READS + o → i ≢ FOR_SUMS + o → get_or d i 0 ≡ get_or c i 0

-- One that passed is,
pub keeps_passed : (c : List ℕ) (j o x : ℕ) → Testable c j o → held_against c j o ≤ x → Keeps c (kept_in c j o x) j o x
keeps_passed c j o x t quiet =
    record {
      long = kept_long c o x j;
      for_reads = raises_for_reads c o x j t.access t.room t.location quiet;
      for_sums = raises_for_sums c o x j t.access t.room t.location quiet;
      away = kept_other c o x j t.access;
    }

-- and one that raced.
module _ (c : List ℕ) (o x : ℕ) where
  raise_long : (table : ℕ) → length (raised_in c table o x) ≡ length c
  unfolding raised_in
  raise_long table = simp length-set

  raise_own : (table : ℕ) → table + o < length c → get_or (raised_in c table o x) (table + o) 0 ≡ raised c table o x
  unfolding raised_in
  raise_own table room = get_or-set_same c (table + o) (raised c table o x) 0 room

  raise_away : (table i : ℕ) → i ≢ table + o → get_or (raised_in c table o x) i 0 ≡ get_or c i 0
  unfolding raised_in
  raise_away table i d = get_or-set_other c (table + o) i (raised c table o x) 0 d

module _ (c : List ℕ) (o x : ℕ) (room : TABLES ≤ length c) (location : o < LOCATIONS) where
  -- In two tables, one after the other.
  abbrev both : ℕ → ℕ → List ℕ
  both a b = raised_in (raised_in c a o x) b o x

  both_long : (a b : ℕ) → length (both a b) ≡ length c
  both_long a b = raise_long (raised_in c a o x) o x b ∙ raise_long c o x a

  both_second : (a b : ℕ) → b ≤ FOR_SUMS → get_or (both a b) (b + o) 0 ≡ max (get_or (raised_in c a o x) (b + o) 0) x
  both_second a b low = raise_own (raised_in c a o x) o x b (omega (arith, raise_long c o x a))

  both_twice : (a : ℕ) → a ≤ FOR_SUMS → get_or (both a a) (a + o) 0 ≡ raised c a o x
  both_twice a low = omega (arith, both_second a a low, raise_own c o x a (omega arith))

  both_away : (a b i : ℕ) → i ≢ a + o → i ≢ b + o → get_or (both a b) i 0 ≡ get_or c i 0
  both_away a b i d e = raise_away (raised_in c a o x) o x b i e ∙ raise_away c o x a i d

  raced_read : Keeps c (raced_in c READ o x) READ o x
  unfolding raced_in conflicting
  raced_read =
      record {
        long = both_long FOR_SUMS FOR_SUMS;
        for_reads = leaves READ READ x _ _ refl (both_away FOR_SUMS FOR_SUMS (FOR_READS + o) (omega arith) (omega arith));
        for_sums = raises READ SUM x _ _ refl (both_twice FOR_SUMS (omega arith));
        away = λ i d e. both_away FOR_SUMS FOR_SUMS i e e;
      }

  raced_write : Keeps c (raced_in c WRITE o x) WRITE o x
  unfolding raced_in conflicting
  raced_write =
      record {
        long = both_long FOR_SUMS FOR_READS;
        for_reads =
            raises WRITE READ x _ _ refl
            (omega (arith, both_second FOR_SUMS FOR_READS (omega arith), raise_away c o x FOR_SUMS (FOR_READS + o) (omega arith)));
        for_sums =
            raises WRITE SUM x _ _ refl
            (raise_away (raised_in c FOR_SUMS o x) o x FOR_READS (FOR_SUMS + o) (omega arith) ∙ raise_own c o x FOR_SUMS (omega arith));
        away = λ i d e. both_away FOR_SUMS FOR_READS i e d;
      }

  raced_sum : Keeps c (raced_in c SUM o x) SUM o x
  unfolding raced_in conflicting
  raced_sum =
      record {
        long = both_long FOR_READS FOR_READS;
        for_reads = raises SUM READ x _ _ refl (both_twice FOR_READS (omega arith));
        for_sums = leaves SUM SUM x _ _ refl (both_away FOR_READS FOR_READS (FOR_SUMS + o) (omega arith) (omega arith));
        away = λ i d e. both_away FOR_READS FOR_READS i d d;
      }

pub keeps_raced : (c : List ℕ) (j o x : ℕ) → Testable c j o → Keeps c (raced_in c j o x) j o x
keeps_raced c j o x t =
    either ((test_access j).0 t.access) (λ e. rw e (raced_read c o x t.room t.location))
    (λ b.
    either b (λ e. rw e (raced_write c o x t.room t.location)) (λ e. rw e (raced_sum c o x t.room t.location)))

-- Whatever the test says of it.
pub keeps_tested : (c d : List ℕ) (j o x : ℕ) (r : Bool) → Testable c j o → RaceSays c d j o x r → Keeps c d j o x
keeps_tested c d j o x true t says = rw says.1 (keeps_raced c j o x t)
keeps_tested c d j o x false t says = rw says.1 (keeps_passed c j o x t says.0)

pub keeps_beyond : {c d : List ℕ} {j o x : ℕ} → o < LOCATIONS → Keeps c d j o x → SameFrom TABLES c d
keeps_beyond low kept = record { long = kept.long; same = λ i h. kept.away i (λ q. omega arith) (λ q. omega arith) }

-- Where there was no sum, FOR-READS stays below FOR-SUMS.
pub calm_kept :
    (c : List ℕ) (o x j : ℕ) → is_access j ≡ true → j ≢ SUM → TABLES ≤ length c → o < LOCATIONS → held_against c j o ≤ x → Calm c → Calm (kept_in c j o x)
calm_kept c o x j access other room location quiet calm l low =
    let was = calm l low in
    let same : l ≢ o → get_or (kept_in c j o x) (FOR_READS + l) 0 ≤ get_or (kept_in c j o x) (FOR_SUMS + l) 0 =
    λ d.
    omega
    (arith, kept_other c o x j access (FOR_READS + l) (λ q. d (omega arith)) (omega arith), kept_other c o x j access (FOR_SUMS + l) (omega arith) (λ q. d (omega arith))) in
    either (same_or_not l o)
    (λ e.
    either ((test_access j).0 access)
    (λ k. rw (e, k) (let calm-o = rw e at was in omega (arith, read_leaves c o x room location, read_kept c o x room location)))
    (λ b.
    either b
    (λ k.
    rw (e, k)
    (let calm-o = rw e at was in omega (arith, write_kept c o x room location (rw k at quiet), write_kept_too c o x room location)))
    (λ k. absurd (other k))))
    same

-- ---- what the tables hold

module _ (kinds operands : List ℕ) (number : ℕ → ℕ) where
  -- What an access of kind k to l is held against, one event later: nothing new,
  largest_same : (k l n v : ℕ) → (Against kinds operands k l n → ⊥) → Largest kinds operands number k l n v → Largest kinds operands number k l (suc n) v
  largest_same k l n v apart before x = (
    λ h. let w = (before x).0 h in let i = w.1 in (w.0, omega arith, w.2, w.3),
    λ w. either (last_or_below w.0 n w.1) (λ e. let a = w.2 in absurd (apart (rw e at a))) (λ h. (before x).1 (w.0, h, w.2, w.3)),
  )

  -- or that event.
  largest_raised : (k l n v : ℕ) → Against kinds operands k l n → Largest kinds operands number k l n v → Largest kinds operands number k l (suc n) (max v (number n))
  largest_raised k l n v here before x = (
    λ h. either (lt_or_le x (number n))
        (λ own. (n, omega arith, here, own))
        (λ high. let w = (before x).0 (omega arith) in let i = w.1 in (w.0, omega arith, w.2, w.3)),
    λ w. either (last_or_below w.0 n w.1)
        (λ e. let h = w.3 in let own = rw e at h in omega arith)
        (λ h. let i = (before x).1 (w.0, h, w.2, w.3) in omega arith),
  )

  -- Before the first event that has another number than 0 the tables hold 0.
  pub tables_none : (n : ℕ) (c : List ℕ) → ((i : ℕ) → i < TABLES → get_or c i 0 ≡ 0) → ((p : ℕ) → p < n → number p ≡ 0) → Tables kinds operands number n c
  tables_none n c cleared zeros =
      record {
        for_reads = λ l low. none READ l (get_or c (FOR_READS + l) 0) (cleared (FOR_READS + l) (omega arith));
        for_sums = λ l low. none SUM l (get_or c (FOR_SUMS + l) 0) (cleared (FOR_SUMS + l) (omega arith));
      }
    where
      none : (k l v : ℕ) → v ≡ 0 → Largest kinds operands number k l n v
      none k l v zero x = (λ h. absurd (omega arith), λ w. let h = w.3 in absurd (omega (arith, zeros w.0 w.1)))

  -- Other cells do not matter.
  pub tables_same : (n : ℕ) (c d : List ℕ) → ((i : ℕ) → i < TABLES → get_or d i 0 ≡ get_or c i 0) → Tables kinds operands number n c → Tables kinds operands number n d
  tables_same n c d same before =
      record {
        for_reads = λ l low. rw (same (FOR_READS + l) (omega arith)) (before.for_reads l low);
        for_sums = λ l low. rw (same (FOR_SUMS + l) (omega arith)) (before.for_sums l low);
      }

  -- A fork, a join and a halt leave them.
  pub tables_move : (n : ℕ) (c : List ℕ) → is_access (get_or kinds n 0) ≡ false → Tables kinds operands number n c → Tables kinds operands number (suc n) c
  tables_move n c move before =
      record {
        for_reads = λ l low. largest_same READ l n _ (λ a. true≢false (sym a.access ∙ move)) (before.for_reads l low);
        for_sums = λ l low. largest_same SUM l n _ (λ a. true≢false (sym a.access ∙ move)) (before.for_sums l low);
      }

  -- ---- an access

  -- What conflicts with a write conflicts with a read or with a sum, and the other way round.
  against_write : {k l p : ℕ} → Against kinds operands k l p → Against kinds operands WRITE l p
  against_write {p = p} a =
      record { access = a.access; one_location = a.one_location; conflicting_kinds = (test_conflicting (get_or kinds p 0) WRITE).1 (inl (inr refl)) }

  against_either : {l p : ℕ} → Against kinds operands WRITE l p → Against kinds operands READ l p ⊎ Against kinds operands SUM l p
  against_either {l} {p} a =
      let k = get_or kinds p 0 in
      let with : (other : ℕ) → conflicting k other ≡ true → Against kinds operands other l p =
      λ other e. record { access = a.access; one_location = a.one_location; conflicting_kinds = e } in
      either ((test_access k).0 a.access) (λ e. inr (with SUM ((test_conflicting k SUM).1 (inr (inl (e, refl))))))
      (λ b.
      either b (λ e. inl (with READ ((test_conflicting k READ).1 (inl (inl e)))))
      (λ e. inl (with READ ((test_conflicting k READ).1 (inr (inr (e, refl)))))))

  -- So the tables tell the largest number that an access is held against.
  held_largest : (n : ℕ) (c : List ℕ) → Tables kinds operands number n c → (k l : ℕ) → is_access k ≡ true → l < LOCATIONS → Largest kinds operands number k l n (held_against c k l)
  held_largest n c before k l access low =
      either ((test_access k).0 access) (λ e. rw (e, held_read) (before.for_reads l low))
      (λ b. either b (λ e. rw (e, held_write) of_write) (λ e. rw (e, held_sum) (before.for_sums l low)))
    where
      of_write : Largest kinds operands number WRITE l n (max (get_or c (FOR_SUMS + l) 0) (get_or c (FOR_READS + l) 0))
      of_write x = (
        λ h. either (lt_or_le x (get_or c (FOR_READS + l) 0))
            (λ i. let w = (before.for_reads l low x).0 i in (w.0, w.1, against_write w.2, w.3))
            (λ i. let w = (before.for_sums l low x).0 (omega arith) in (w.0, w.1, against_write w.2, w.3)),
        λ w. either (against_either w.2)
            (λ a. let h = (before.for_reads l low x).1 (w.0, w.1, a, w.3) in omega arith)
            (λ a. let h = (before.for_sums l low x).1 (w.0, w.1, a, w.3) in omega arith),
      )

  module _ (n : ℕ) (c : List ℕ) (room : TABLES ≤ length c) (access : is_access (get_or kinds n 0) ≡ true) (location : get_or operands n 0 < LOCATIONS)
      (before : Tables kinds operands number n c) where
    abbrev j : ℕ
    j = get_or kinds n 0

    abbrev o : ℕ
    o = get_or operands n 0

    -- It races exactly if that is larger than its own;
    pub race_by_table : (number n < held_against c j o) ↔ ((p : ℕ) × RaceByNumber kinds operands number p n)
    race_by_table =
        let held = held_largest n c before j o access location (number n) in (
          λ h. let w = held.0 h in (w.0, record { before = w.1; access = access; against = w.2; smaller = w.3 }),
          λ w. let r = w.1 in held.1 (w.0, r.before, r.against, r.smaller),
        )

    -- and once it is kept, the tables hold the largest numbers of one event more.
    pub tables_kept : (d : List ℕ) → Keeps c d j o (number n) → Tables kinds operands number (suc n) d
    tables_kept d kept =
        record {
          for_reads = λ l low.
              either (same_or_not l o)
              (λ same. rw same (largest_kept READ _ _ kept.for_reads (before.for_reads o location)))
              (λ other. largest_away READ l (FOR_READS + l) other (λ q. other (omega arith)) (omega arith) (before.for_reads l low));
          for_sums = λ l low.
              either (same_or_not l o)
              (λ same. rw same (largest_kept SUM _ _ kept.for_sums (before.for_sums o location)))
              (λ other. largest_away SUM l (FOR_SUMS + l) other (omega arith) (λ q. other (omega arith)) (before.for_sums l low));
        }
      where
        largest_kept : (k v v' : ℕ) → Raises j k (number n) v v' → Largest kinds operands number k o n v → Largest kinds operands number k o (suc n) v'
        largest_kept k v v' changes was =
            by_test (conflicting j k)
            (λ yes.
            rw (changes.0 yes) (largest_raised k o n v (record { access = access; one_location = refl; conflicting_kinds = yes }) was))
            (λ no. rw (changes.1 no) (largest_same k o n v (λ a. true≢false (sym a.conflicting_kinds ∙ no)) was))

        largest_away :
            (k l i : ℕ) → l ≢ o → i ≢ FOR_READS + o → i ≢ FOR_SUMS + o → Largest kinds operands number k l n (get_or c i 0)
            → Largest kinds operands number k l (suc n) (get_or d i 0)
        largest_away k l i other e f was = rw (kept.away i e f) (largest_same k l n _ (λ a. other (sym a.one_location)) was)
