-- What the size checks (rows 1 to 4) say where they pass, and by which rows they fail. Assumes nothing.
use Prim.Native.Nat.{ℕ, ◌+◌, ◌≤◌, ◌<◌}
use mathlib.Core.Path.{◌≡◌, refl, sym, ◌∙◌}
use mathlib.Core.List.{List}
use mathlib.Core.Logic.{inl, inr}
use native.Mathlib.Omega.{arith}
use lib.ListN.{length}
use borrow.Author.Tests.{not-false, ltb-false}
use Rattle.trace.specs.Trace.{MAX_EVENTS, WORKSPACE_CELLS}
use Rattle.trace.specs.declared.Trace.{Trace}
use Rattle.trace.specs.Line.{Checked, passes, fails}
use Rattle.trace.specs.Outcome.{Reply, says, refused, Verdict, sizes, order_room, judge_checked, judge_outcome}
use Rattle.trace.proofs.Tests.{test_eq, test_lt, test_and, test_or, tests_fails}
use Rattle.trace.proofs.Lines.{row_passes, passes_not_fails, RowBetween, row_between, fails_between}

-- Rows 1 to 3 pass and the trace has n events.
pub record Sized (kinds tasks operands workspace : List ℕ) (n : ℕ) : Type 0 where
  pub of_kinds : length kinds ≡ n
  pub of_tasks : length tasks ≡ n
  pub of_operands : length operands ≡ n
  pub few : n ≤ MAX_EVENTS
  pub room : WORKSPACE_CELLS + n ≤ length workspace

-- The same of a trace as the code holds it, with all its events.
abbrev pub SizedTrace : Trace → List ℕ → Type 0
SizedTrace held workspace = Sized held.kinds.now held.tasks.now held.operands.now workspace (length held.kinds.now)

-- So does row 4.
pub record Roomy (first second : List ℕ) (n : ℕ) : Type 0 where
  pub of_first : n ≤ length first
  pub of_second : n ≤ length second

module _ (kinds tasks operands workspace : List ℕ) (n : ℕ) where
  -- Where rows 1 to 3 pass:
  pub sized : sizes kinds tasks operands workspace ≡ passes n → Sized kinds tasks operands workspace n
  unfolding sizes
  sized e =
      let one = row_passes 1 _ _ n e in
      let two = row_passes 2 _ _ n one.1 in
      let three = row_passes 3 _ _ n two.1 in
      let same = (test_and _ _ (test_eq (length kinds) (length tasks)) (test_eq (length kinds) (length operands))).0 (not-false _ one.0) in
      let all : length kinds ≡ n = cc three.1 in
      let few = ltb-false MAX_EVENTS (length kinds) two.0 in
      let room = ltb-false (length workspace) (WORKSPACE_CELLS + length kinds) three.0 in
      record { of_kinds = all; of_tasks = sym same.0 ∙ all; of_operands = sym same.1 ∙ all; few = omega arith; room = omega arith }

room_checks : (first second : List ℕ) (c : Checked ℕ) (n : ℕ) → order_room first second c ≡ passes n → (c ≡ passes n) × Roomy first second n
unfolding order_room
room_checks first second (fails number) n e = absurd (passes_not_fails e refl)
room_checks first second (passes m) n e =
    let four = row_passes 4 _ _ n e in
    let same : m ≡ n = cc four.1 in
    let short = tests_fails _ (test_or _ _ (test_lt (length first) m) (test_lt (length second) m)) four.0 in
    let long-first : length first < m → ⊥ = λ h. short (inl h) in
    let long-second : length second < m → ⊥ = λ h. short (inr h) in
    (four.1, record { of_first = omega arith; of_second = omega arith })

-- Rows 1 to 4.
module _ (kinds tasks operands workspace first second : List ℕ) (n : ℕ)
    (e : order_room first second (sizes kinds tasks operands workspace) ≡ passes n) where
  pub sized_first : Sized kinds tasks operands workspace n
  sized_first = sized kinds tasks operands workspace n (room_checks first second (sizes kinds tasks operands workspace) n e).0

  pub roomy : Roomy first second n
  roomy = (room_checks first second (sizes kinds tasks operands workspace) n e).1

-- ---- where they fail

room_between : (first second : List ℕ) (c : Checked ℕ) → RowBetween 1 3 c → RowBetween 1 4 (order_room first second c)
unfolding order_room
room_between first second (fails number) r = let high = r.1 in (r.0, omega arith)
room_between first second (passes n) r = row_between 1 4 4 _ _ (omega arith) (omega arith) tt

module _ (kinds tasks operands workspace : List ℕ) where
  sizes_between : RowBetween 1 3 (sizes kinds tasks operands workspace)
  unfolding sizes
  sizes_between =
      row_between 1 3 1 _ _ (omega arith) (omega arith)
      (row_between 1 3 2 _ _ (omega arith) (omega arith) (row_between 1 3 3 _ _ (omega arith) (omega arith) tt))

  -- The size checks of the ordering call fail by rows 1 to 3,
  pub sizes_row : (number : ℕ) → sizes kinds tasks operands workspace ≡ fails number → (1 ≤ number) × (number ≤ 3)
  sizes_row number e = fails_between 1 3 number (sizes kinds tasks operands workspace) sizes_between e

  -- and those of the judge by rows 1 to 4.
  pub order_room_row : (first second : List ℕ) (number : ℕ) → order_room first second (sizes kinds tasks operands workspace) ≡ fails number
      → (1 ≤ number) × (number ≤ 4)
  order_room_row first second number e =
      fails_between 1 4 number (order_room first second (sizes kinds tasks operands workspace))
      (room_between first second (sizes kinds tasks operands workspace) sizes_between) e

-- ---- what is said is no refusal

pub refused_not_says : {A : Type 0} {a : A} {number position : ℕ} {reply : Reply A} → reply ≡ refused number position → reply ≡ says a → ⊥
refused_not_says e f = let z : ◌≡◌ {A = ℕ} 0 1 = cc in omega arith

-- Where the judge says clean or race, rows 1 to 4 passed.
module _ (kinds tasks operands workspace first second : List ℕ) {v : Verdict} where
  says_checked : (c : Checked ℕ) → (judge_checked kinds tasks operands workspace first second c).answer ≡ says v → (n : ℕ) × (c ≡ passes n)
  unfolding judge_checked
  says_checked (fails number) e = absurd (refused_not_says refl e)
  says_checked (passes n) e = (n, refl)

  pub says_sized : (judge_outcome kinds tasks operands workspace first second).answer ≡ says v
      → (n : ℕ) × (order_room first second (sizes kinds tasks operands workspace) ≡ passes n)
  unfolding judge_outcome
  says_sized e = says_checked (order_room first second (sizes kinds tasks operands workspace)) e
