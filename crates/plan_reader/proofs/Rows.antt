-- The laws behind the first pass: where a leaf's number ends, how many events and forks a plan has at most, and what a whole text comes to. Assumes nothing.
use Prim.Native.Nat.{ℕ, zero, suc, ◌+◌, ◌-◌, ◌^◌, ◌≤◌, ◌<◌}
use native.Mathlib.Numerals.{add-one}
use native.Mathlib.Omega.{arith}
use mathlib.Core.Path.{◌≡◌, ap}
use mathlib.Core.List.{List, ◌∷◌, [], ◌++◌}
use mathlib.Core.Option.{some}
use lib.Dec.{ltb}
use lib.ListN.{length, get_or, drop, drop_of_length-le, length-append, length-drop}
use lib.Seq.{drop-cons}
use mir.Syntax.{w64}
use mir.Val.{Fits}
use Rattle.std.specs.Prelude.{Option, Some}
use Rattle.trace.proofs.Tests.{by_test}
use Rattle.numbers.specs.Decimal.{digits, decimal}
use Rattle.numbers.specs.Reading.{number}
use Rattle.numbers.specs.Answers.{after_number, Within}
use Rattle.numbers.specs.declared.Number.{Number}
use Rattle.numbers.proofs.Decimal.{number_printed}
use Rattle.numbers.proofs.Tokens.{each_some}
use Rattle.plan.specs.Plans.{Plan, leaf, pair, print, LEVELS}
use Rattle.plan.specs.Events.{forks}
use Rattle.plan.specs.Leaves.{events}
use Rattle.plan.specs.Reading.{letter_of, LAST_LOCATION, lone, opening, Reading, read, refused, plan_at, whole}
use Rattle.plan_reader.specs.Answers.{counted, stopped, measured, plan, no_plan, measured_whole}
use Rattle.plan.specs.declared.Access.{Access}
use Rattle.plan.specs.declared.Letter.TheVariants.{Leaf}
use Rattle.plan.specs.declared.Operator.{Operator}
use Rattle.plan.specs.declared.Operator.TheVariants.{Series, Parallel}
use Rattle.plan.proofs.Stops.{reads, read_parts}

-- ---- a number

pub decimal_some : (n : ℕ) → 1 ≤ length (decimal n)
unfolding decimal
decimal_some n = digits_some 19 n
  where
    digits_some : (more n : ℕ) → 1 ≤ length (digits more n)
    digits_some zero n = omega arith
    digits_some (suc more) n =
        by_test (ltb n 10) (λ e. rw e (omega arith)) (λ e. rw (e, length-append) (omega arith))

-- A number that is read has a digit, and the bytes that are left tell where it ends.
pub record Ending (text : List ℕ) (from end : ℕ) : Type 0 where
  pub further : from < end
  pub place : from + (length (drop from text) - length (drop end text)) ≡ end

pub number_ending : (text : List ℕ) (from value end : ℕ) → number LAST_LOCATION (drop from text) ≡ some (value, drop end text) → end ≤ length text
    → Ending text from end
number_ending text from value end e w =
    let p = each_some (rw e at (number_printed LAST_LOCATION (omega arith) (omega arith) (drop from text))) in
    let l = simp (length-append, length-drop) at (ap length p.bytes) in
    let d = decimal_some value in
    record { further = omega arith; place = simp length-drop (omega arith) }

-- The reader counts the position after the location from the bytes that are left.
pub opening_leaf : (text : List ℕ) (at room : ℕ) → at < length text → (k : Access) → letter_of (get_or text at 0) ≡ Some (Leaf k)
    → (r : Option Number) → after_number text r ≡ number LAST_LOCATION (drop (at + 1) text) → Within text r → (n : Number) → r ≡ Some n
    → lone k n.value n.end (drop n.end text) ≡ opening room at (drop at text)
opening_leaf text at room h k spelt r there within n e =
    let i : number LAST_LOCATION (drop (at + 1) text) ≡ some (n.value, drop n.end text) = cc in
    let p = number_ending text (at + 1) n.value n.end i (rw e at within) in
    rw (drop-cons text at 0 h, spelt, ← add-one at, i, p.place)

-- ---- the size of a plan

-- A plan has fewer events than bytes, and no more forks than events.
pub record Small (p : Plan) : Type 0 where
  pub few_events : events p + 1 ≤ length (print p)
  pub few_forks : forks p ≤ events p

length_pair : (x y : List ℕ) → length (x ++ (44 ∷ (y ++ (41 ∷ [])))) ≡ length x + length y + 2
length_pair x y = simp length-append (omega arith)

small_pair : (o : Operator) (a b : Plan) → Small a → Small b → Small (pair o a b)
small_pair Series a b i j =
    let n = length_pair (print a) (print b) in record { few_events = omega arith; few_forks = omega arith }
small_pair Parallel a b i j =
    let n = length_pair (print a) (print b) in record { few_events = omega arith; few_forks = omega arith }

pub small : (p : Plan) → Small p
small (leaf k l) = let i = decimal_some l in record { few_events = omega arith; few_forks = omega arith }
small (pair o a b) = small_pair o a b (small a) (small b)

-- ---- what an operand's `scan` answers

-- The plan of a reading, with the numbers of its events and forks.
pub record Found (x : Reading) (end e f : ℕ) (rest : List ℕ) : Type 0 where
  pub plan : Plan
  pub is : x ≡ read plan end rest
  pub events_are : e ≡ events plan
  pub forks_are : f ≡ forks plan

found_of : (end e f : ℕ) (rest : List ℕ) (x : Reading) → counted end e f rest ≡ measured x → Found x end e f rest
found_of end e f rest (read p end' rest') h = record { plan = p; is = cc; events_are = cc; forks_are = cc }
found_of end e f rest (refused n q) h = let z : ◌≡◌ {A = ℕ} 0 1 = cc in absurd (omega arith)

lost_of : (n q : ℕ) (x : Reading) → stopped n q ≡ measured x → x ≡ refused n q
lost_of n q (read p end rest) h = let z : ◌≡◌ {A = ℕ} 0 1 = cc in absurd (omega arith)
lost_of n q (refused m o) h = cc

-- Where the plan ends, and how many events and forks it has at most.
record Bounds (text : List ℕ) (at end e f : ℕ) : Type 0 where
  low : at + e + 1 ≤ end
  high : end ≤ length text
  few : f ≤ e

bounds : (text : List ℕ) (room at end e f : ℕ) → counted end e f (drop end text) ≡ measured (plan_at room at (drop at text)) → Bounds text at end e f
bounds text room at end e f answers =
    let i = found_of end e f (drop end text) (plan_at room at (drop at text)) answers in
    let p = read_parts (rw i.is at (reads room at (drop at text))) in
    let n = small i.plan in
    let l = simp (length-append, length-drop) at (ap length p.bytes) in
    let k = simp length-drop at p.place in
    record { low = omega arith; high = omega arith; few = omega arith }

-- Two operands in a row: their numbers can be added.
module _ (text : List ℕ) (room at comma e f close e₂ f₂ : ℕ) (one : counted comma e f (drop comma text) ≡ measured (plan_at room at (drop at text)))
    (two : counted close e₂ f₂ (drop close text) ≡ measured (plan_at room (comma + 1) (drop (comma + 1) text))) (short : length text < 2 ^ 64) where
  few : (3 + (e + e₂) ≤ length text) × (f + f₂ ≤ e + e₂)
  few =
      let i = bounds text room at comma e f one in
      let j = bounds text room (comma + 1) close e₂ f₂ two in
      (omega arith, omega arith)

  pub events_fit : Fits w64 (e + e₂)
  events_fit = let h = few in omega arith

  pub forks_fit : Fits w64 (f + f₂)
  forks_fit = let h = few in omega arith

  pub all_events_fit : Fits w64 (3 + (e + e₂))
  all_events_fit = let h = few in omega arith

  pub all_forks_fit : Fits w64 (1 + (f + f₂))
  all_forks_fit = let h = few in omega arith

-- What a pair's numbers are made of.
pub pair_series : (o : Operator) (a b : Plan) (end : ℕ) (rest : List ℕ) → o ≡ Series
    → measured (read (pair o a b) end rest) ≡ counted end (events a + events b) (forks a + forks b) rest
pair_series o a b end rest n = rw n

pub pair_parallel : (o : Operator) (a b : Plan) (end : ℕ) (rest : List ℕ) → o ≡ Parallel
    → measured (read (pair o a b) end rest) ≡ counted end (3 + (events a + events b)) (1 + (forks a + forks b)) rest
pair_parallel o a b end rest n = rw n

-- ---- `measure`

module _ (text : List ℕ) where
  pub measure_stops : (n q : ℕ) → stopped n q ≡ measured (plan_at LEVELS 0 (drop 0 text)) → no_plan n q ≡ measured_whole (whole text)
  unfolding whole
  measure_stops n q e = rw (lost_of n q (plan_at LEVELS 0 text) e)

  module _ (end e f : ℕ) (answers : counted end e f (drop end text) ≡ measured (plan_at LEVELS 0 (drop 0 text))) where
    whole_plan : Found (plan_at LEVELS 0 text) end e f (drop end text)
    whole_plan = found_of end e f (drop end text) (plan_at LEVELS 0 text) answers

    pub measure_more : end < length text → no_plan 17 end ≡ measured_whole (whole text)
    unfolding whole
    measure_more h = rw (whole_plan.is, drop-cons text end 0 h)

    pub measure_whole : length text ≤ end → plan e f ≡ measured_whole (whole text)
    unfolding whole
    measure_whole h = let i = whole_plan in rw (whole_plan.is, drop_of_length-le text) (cc)
