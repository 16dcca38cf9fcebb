-- Texts to go by, computed: the request's example with its plan, events and slices, forks within forks, and texts for each way to be refused. Assumes nothing.
use Rattle.std.specs.Prelude.{ℕ, zero, suc, ◌≡◌, refl, true, false, List, [], ◌∷◌}
use Rattle.std.proofs.Common.{arith}
use Rattle.trace.specs.Outcome.{says, refused}
use Rattle.trace.specs.Slices.{Slices, slices, store, Translated}
use Rattle.numbers.specs.Decimal.{decimal}
use Rattle.numbers.specs.Reading.{digit, is_whole, extended}
use Rattle.numbers.specs.Reading as numbers
use Rattle.plan.specs.Plans.{Plan, leaf, pair, print}
use Rattle.plan.specs.Events.{event, events_of}
use Rattle.plan.specs.Leaves.{here, of_left, of_right, events, position, InSeries}
use Rattle.plan.specs.Reading.{letter_of, Whole, accepted, rejected, whole}
use Rattle.plan.specs.Tracing.{is_too_large, planned}
use Rattle.plan.specs.declared.Access.TheVariants.{Read, Write, Sum}
use Rattle.plan.specs.declared.Operator.TheVariants.{Series, Parallel}

-- Every definition that `planned` computes by: to unfold this one is to unfold them all.
unfoldable pub computed : List ℕ → Slices → Translated
unfolding planned whole letter_of digit is_whole numbers.is_too_large extended decimal is_too_large store
computed = planned

-- ---- the request's example

-- `S(w3,P(r3,r3))`
abbrev example : List ℕ
example = 83 ∷ 40 ∷ 119 ∷ 51 ∷ 44 ∷ 80 ∷ 40 ∷ 114 ∷ 51 ∷ 44 ∷ 114 ∷ 51 ∷ 41 ∷ 41 ∷ []

abbrev example_plan : Plan
example_plan = pair Series (leaf Write 3) (pair Parallel (leaf Read 3) (leaf Read 3))

pub example_read : whole example ≡ accepted example_plan
unfolding computed
example_read = refl

pub example_printed : print example_plan ≡ example
unfolding computed
example_printed = refl

-- Task 0 writes, and forks 1; 1 reads and halts; 0 reads, and joins 1.
pub example_events_law :
    events_of example_plan ≡ event 1 0 3 ∷ event 2 0 1 ∷ event 0 1 3 ∷ event 4 1 0 ∷ event 0 0 3 ∷ event 3 0 1 ∷ []
unfolding computed
example_events_law = refl

-- Its leaves stand at 0, 2 and 4.
pub example_leaves :
    (position example_plan (of_left here) 0 ≡ 0)
    × (position example_plan (of_right (of_left here)) 0 ≡ 2)
    × (position example_plan (of_right (of_right here)) 0 ≡ 4)
example_leaves = (refl, refl, refl)

-- The write reaches both reads; no read reaches the other, nor the write.
pub example_series :
    InSeries example_plan (of_left here) (of_right (of_left here))
    × InSeries example_plan (of_left here) (of_right (of_right here))
    × (InSeries example_plan (of_right (of_left here)) (of_left here) → ⊥)
    × (InSeries example_plan (of_right (of_left here)) (of_right (of_right here)) → ⊥)
    × (InSeries example_plan (of_right (of_right here)) (of_right (of_left here)) → ⊥)
example_series = (refl, refl, (λ h. h), (λ h. let z : ◌≡◌ {A = ℕ} 0 1 = cc in omega arith), (λ h. h))

-- Slices of different lengths: the cells past the trace stay.
pub example_planned :
    planned example (slices (9 ∷ 9 ∷ 9 ∷ 9 ∷ 9 ∷ 9 ∷ []) (9 ∷ 9 ∷ 9 ∷ 9 ∷ 9 ∷ 9 ∷ 9 ∷ []) (9 ∷ 9 ∷ 9 ∷ 9 ∷ 9 ∷ 9 ∷ 9 ∷ 9 ∷ []))
    ≡ record {
      answer = says 6;
      slices = slices (1 ∷ 2 ∷ 0 ∷ 4 ∷ 0 ∷ 3 ∷ []) (0 ∷ 0 ∷ 1 ∷ 1 ∷ 0 ∷ 0 ∷ 9 ∷ []) (3 ∷ 1 ∷ 3 ∷ 0 ∷ 3 ∷ 1 ∷ 9 ∷ 9 ∷ []);
    }
unfolding computed
example_planned = refl

-- ---- "Tasks are numbered 1, 2, 3 in fork order."

-- `P(P(r1,r2),r3)`: 1 forks 2, and the halt of 2 names 1.
pub fork_in_first :
    events_of (pair Parallel (pair Parallel (leaf Read 1) (leaf Read 2)) (leaf Read 3))
    ≡ event 2 0 1 ∷ event 2 1 2 ∷ event 0 2 1 ∷ event 4 2 1 ∷ event 0 1 2 ∷ event 3 1 2 ∷ event 4 1 0 ∷ event 0 0 3 ∷ event 3 0 1 ∷ []
unfolding computed
fork_in_first = refl

-- `P(r1,P(r2,r3))`: 0 forks 1 and then 2, whose halts both name it, and joins them in the other order.
pub fork_in_second :
    events_of (pair Parallel (leaf Read 1) (pair Parallel (leaf Read 2) (leaf Read 3)))
    ≡ event 2 0 1 ∷ event 0 1 1 ∷ event 4 1 0 ∷ event 2 0 2 ∷ event 0 2 2 ∷ event 4 2 0 ∷ event 0 0 3 ∷ event 3 0 2 ∷ event 3 0 1 ∷ []
unfolding computed
fork_in_second = refl

-- ---- row 17

-- `r1024`: at the byte that makes the location too large.
pub too_large_location : whole (114 ∷ 49 ∷ 48 ∷ 50 ∷ 52 ∷ []) ≡ rejected 17 4
unfolding computed
too_large_location = refl

-- `s1023` is a plan.
pub last_location : whole (115 ∷ 49 ∷ 48 ∷ 50 ∷ 51 ∷ []) ≡ accepted (leaf Sum 1023)
unfolding computed
last_location = refl

-- `r01`: a leading zero.
pub leading_zero : whole (114 ∷ 48 ∷ 49 ∷ []) ≡ rejected 17 2
unfolding computed
leading_zero = refl

-- `r`, the empty text and `S(r1,` break off: at their lengths.
pub broken_off : (whole (114 ∷ []) ≡ rejected 17 1) × (whole [] ≡ rejected 17 0) × (whole (83 ∷ 40 ∷ 114 ∷ 49 ∷ 44 ∷ []) ≡ rejected 17 5)
unfolding computed
broken_off = (refl, refl, refl)

-- `r3` and a line feed: a byte after a whole plan.
pub line_feed : whole (114 ∷ 51 ∷ 10 ∷ []) ≡ rejected 17 2
unfolding computed
line_feed = refl

-- ---- row 18

-- These bytes after `S(`, n times.
abbrev within : ℕ → List ℕ → List ℕ
within zero s = s
within (suc n) s = 83 ∷ 40 ∷ within n s

-- The end of n operators: `,r1)`, n times.
abbrev ends : ℕ → List ℕ
ends zero = []
ends (suc n) = 44 ∷ 114 ∷ 49 ∷ 41 ∷ ends n

abbrev events_in : Whole → ℕ
events_in (accepted p) = events p
events_in (rejected number at) = 0

-- 64 levels are a plan, of 65 events;
pub deepest : events_in (whole (within 64 (114 ∷ 49 ∷ ends 64))) ≡ 65
unfolding computed
deepest = refl

-- the letter that opens the 65th is refused,
pub too_deep : whole (within 65 (114 ∷ 49 ∷ ends 65)) ≡ rejected 18 128
unfolding computed
too_deep = refl

-- though nothing follows it, or no bracket does; any other byte there is row 17.
pub letter_at_level_65 : (whole (within 64 (83 ∷ [])) ≡ rejected 18 128) × (whole (within 64 (80 ∷ ends 64)) ≡ rejected 18 128)
    × (whole (within 64 (40 ∷ [])) ≡ rejected 17 128)
unfolding computed
letter_at_level_65 = (refl, refl, refl)

-- ---- row 19

-- `r3` has one event: each slice must hold it.
pub short_slices :
    ((planned (114 ∷ 51 ∷ []) (slices [] [] [])).answer ≡ refused 19 0) × ((planned (114 ∷ 51 ∷ []) (slices (9 ∷ []) (9 ∷ []) [])).answer ≡ refused 19 0)
    × ((planned (114 ∷ 51 ∷ []) (slices (9 ∷ []) (9 ∷ []) (9 ∷ []))).answer ≡ says 1)
unfolding computed
short_slices = (refl, refl, refl)

-- A refusal leaves the slices as they were.
pub short_slices_kept : planned example (slices (9 ∷ []) (9 ∷ []) (9 ∷ [])) ≡ record { answer = refused 19 0; slices = slices (9 ∷ []) (9 ∷ []) (9 ∷ []) }
unfolding computed
short_slices_kept = refl

-- `r3` and a line feed, with empty slices: 17 comes first.
pub stray_before_short : (planned (114 ∷ 51 ∷ 10 ∷ []) (slices [] [] [])).answer ≡ refused 17 2
unfolding computed
stray_before_short = refl

-- The first task counts: 1,023 forks fit, and 1,024 do not.
pub most_forks : (is_too_large 4093 1023 4093 4093 4093 ≡ false) × (is_too_large 4097 1024 4097 4097 4097 ≡ true)
unfolding computed
most_forks = (refl, refl)

-- 32,768 events fit, and one more does not.
pub most_events : (is_too_large 32768 0 32769 32769 32769 ≡ false) × (is_too_large 32769 0 32769 32769 32769 ≡ true)
unfolding computed
most_events = (refl, refl)
