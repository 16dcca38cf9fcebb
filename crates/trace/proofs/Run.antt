-- The run of a trace that keeps the line rules, as a relation with one constructor for each kind of event, and what holds at every moment of it. A run
-- keeps the line as two stacks: `left`, the tasks that have halted and are not joined yet, nearest to the running task first, and `active`, the running
-- task, its paused parent and so on to task 0. That this is the line of `specs/Line` is proved in `TwoStacks`. Assumes nothing.
use Prim.Native.Nat.{ℕ, suc, ◌+◌, ◌<◌, ◌≤◌}
use mathlib.Core.Path.{◌≡◌, refl, sym, ap, ◌∙◌}
use mathlib.Core.Bool.{true}
use mathlib.Core.List.{List, [], ◌∷◌, reverse_aux}
use mathlib.Core.Logic.{◌⊎◌, inl, inr, ◌≢◌}
use native.Mathlib.Omega.{arith}
use lib.ListN.{length}
use Rattle.trace.specs.Trace.{Trace, FORK, JOIN, HALT, is_access, LOCATIONS, TASKS}
use Rattle.trace.specs.Line.{Line}
use Rattle.trace.proofs.Tests.{either, last_or_below}
use Rattle.trace.proofs.EventKinds.{access_not_fork, access_not_join, access_not_halt}
use Rattle.trace.proofs.Stacks.{In, in_eq, in_cons, Distinct, distinct_length, updated}

-- The line that two stacks make: left turned round, then active.
abbrev pub line_of : List ℕ → List ℕ → List ℕ → Line
line_of left active used = record { tasks = reverse_aux left active; active = active; used = used }

-- ---- what holds of the stacks and the numbers used

-- The task y is in the line.
abbrev pub InLine : List ℕ → List ℕ → ℕ → Type 0
InLine left active y = In y active ⊎ In y left

-- No task is twice in the line.
pub record DistinctStacks (left active : List ℕ) : Type 0 where
  pub of_active : Distinct active
  pub of_left : Distinct left
  pub disjoint : (y : ℕ) → In y left → In y active → ⊥

-- The lowest entry, if there is one, is task 0.
abbrev pub EndsInZero : List ℕ → Type 0
EndsInZero [] = Unit {0}
EndsInZero (y ∷ []) = y ≡ 0
EndsInZero (y ∷ (z ∷ l)) = EndsInZero (z ∷ l)

-- The numbers used by the first n events.
pub record UsedNumbers (tr : Trace) (n : ℕ) (left active used : List ℕ) : Type 0 where
  pub of_active : (y : ℕ) → In y active → In y used
  pub of_left : (y : ℕ) → In y left → In y used
  pub of_task : (p : ℕ) → p < n → In (tr.task p) used
  pub of_fork : (p : ℕ) → p < n → tr.kind p ≡ FORK → In (tr.operand p) used
  pub of_zero : In 0 used
  pub small : (y : ℕ) → In y used → y < TASKS
  pub distinct : Distinct used
  pub stacks_fit : length active + length left ≤ length used

tail_ends : (y : ℕ) (l : List ℕ) → EndsInZero (y ∷ l) → EndsInZero l
tail_ends y [] e = tt
tail_ends y (z ∷ l) e = e

zero_in : (y : ℕ) (l : List ℕ) → EndsInZero (y ∷ l) → In 0 (y ∷ l)
zero_in y [] e = inl (sym e)
zero_in y (z ∷ l) e = inr (zero_in z l e)

-- A halt keeps the running task x in the line.
pub halted_in_line : (x : ℕ) (left paused : List ℕ) (y : ℕ) → InLine (x ∷ left) paused y → InLine left (x ∷ paused) y
halted_in_line x left paused y i = either i (λ j. inl (inr j)) (λ j. either j (λ e. inl (inl e)) (λ l. inr l))

-- A joined task is out of the line.
pub joined_gone : (v : ℕ) (left active : List ℕ) → DistinctStacks (v ∷ left) active → (y : ℕ) → InLine left active y → y ≢ v
joined_gone v left active d y i e =
    either i (λ j. d.disjoint v (inl refl) (in_eq active (sym e) j)) (λ j. d.of_left.0 (in_eq left (sym e) j))

module _ {tr : Trace} where
  -- With one event more, of the running task:
  pub of_task_next : {n : ℕ} {left paused used : List ℕ} → UsedNumbers tr n left (tr.task n ∷ paused) used → (p : ℕ) → p < suc n →
      In (tr.task p) used
  of_task_next {n = n} {used = used} u p h =
      either (last_or_below p n h) (λ e. in_eq used (ap tr.task e) (u.of_active (tr.task n) (inl refl))) (u.of_task p)

  of_fork_next : {n : ℕ} {left active used : List ℕ} → UsedNumbers tr n left active used → tr.kind n ≢ FORK → (p : ℕ) → p < suc n →
      tr.kind p ≡ FORK → In (tr.operand p) used
  of_fork_next {n = n} u k p h f =
      either (last_or_below p n h) (λ e. absurd (k (sym (ap tr.kind e) ∙ f))) (λ i. u.of_fork p i f)

  -- An event that is no fork and adds no task to the line.
  used_next : {n : ℕ} {left left' paused active used : List ℕ} → UsedNumbers tr n left (tr.task n ∷ paused) used → tr.kind n ≢ FORK →
      ((y : ℕ) → InLine left' active y → InLine left (tr.task n ∷ paused) y) →
      length active + length left' ≤ length (tr.task n ∷ paused) + length left →
      UsedNumbers tr (suc n) left' active used
  used_next {n = n} u k f fewer =
      record {
        of_active = λ y i. either (f y (inl i)) (u.of_active y) (u.of_left y);
        of_left = λ y i. either (f y (inr i)) (u.of_active y) (u.of_left y);
        of_task = of_task_next u;
        of_fork = of_fork_next u k;
        of_zero = u.of_zero;
        small = u.small;
        distinct = u.distinct;
        stacks_fit = let fit = u.stacks_fit in omega arith;
      }

-- ---- the run

module _ (haltRule : Line → ℕ) (tr : Trace) where
  -- Run n left active used last: the first n events keep the rules; then these are the two stacks, the numbers used, and one more than the position of
  -- each task's last event or, where it has none, of its fork (0: neither).
  pub data Run : ℕ → List ℕ → List ℕ → List ℕ → (ℕ → ℕ) → Type 0 where
    start : Run 0 [] (0 ∷ []) (0 ∷ []) (λ t. 0)
    access : {n : ℕ} {left paused used : List ℕ} {last : ℕ → ℕ} →
        Run n left (tr.task n ∷ paused) used last →
        is_access (tr.kind n) ≡ true →
        tr.operand n < LOCATIONS →
        Run (suc n) left (tr.task n ∷ paused) used (updated last (tr.task n) (suc n))
    fork : {n : ℕ} {left paused used : List ℕ} {last : ℕ → ℕ} →
        Run n left (tr.task n ∷ paused) used last →
        tr.kind n ≡ FORK →
        tr.operand n < TASKS →
        (In (tr.operand n) used → ⊥) →
        Run (suc n) left (tr.operand n ∷ (tr.task n ∷ paused)) (tr.operand n ∷ used)
        (updated (updated last (tr.task n) (suc n)) (tr.operand n) (suc n))
    join : {n : ℕ} {left paused used : List ℕ} {last : ℕ → ℕ} →
        Run n (tr.operand n ∷ left) (tr.task n ∷ paused) used last →
        tr.kind n ≡ JOIN →
        Run (suc n) left (tr.task n ∷ paused) used (updated last (tr.task n) (suc n))
    halt : {n : ℕ} {left paused used : List ℕ} {last : ℕ → ℕ} →
        Run n left (tr.task n ∷ paused) used last →
        tr.kind n ≡ HALT →
        tr.operand n ≡ haltRule (line_of left (tr.task n ∷ paused) used) →
        Run (suc n) (tr.task n ∷ left) paused used (updated last (tr.task n) (suc n))

  -- After an access its task runs on.
  pub access_runs_on : {n : ℕ} {left active used : List ℕ} {last : ℕ → ℕ} → Run (suc n) left active used last → is_access (tr.kind n) ≡ true →
      (paused : List ℕ) × (active ≡ tr.task n ∷ paused)
  access_runs_on (access {paused = paused} run a o) k = (paused, refl)
  access_runs_on (fork {n = n} run f o new) k = absurd (access_not_fork (tr.kind n) k f)
  access_runs_on (join {n = n} run j) k = absurd (access_not_join (tr.kind n) k j)
  access_runs_on (halt {n = n} run h o) k = absurd (access_not_halt (tr.kind n) k h)

  -- ---- the numbers used

  -- The facts on the numbers used hold at every moment of a run;
  pub used_numbers : {n : ℕ} {left active used : List ℕ} {last : ℕ → ℕ} → Run n left active used last → UsedNumbers tr n left active used
  used_numbers start =
      record {
        of_active = λ y i. i;
        of_left = λ y i. absurd i;
        of_task = λ p h. absurd (omega arith);
        of_fork = λ p h k. absurd (omega arith);
        of_zero = inl refl;
        small = λ y i. either i (λ e. omega arith) (λ j. absurd j);
        distinct = (λ i. i, tt);
        stacks_fit = omega arith;
      }
  used_numbers (access {n = n} run k o) = used_next (used_numbers run) (access_not_fork (tr.kind n) k) (λ y i. i) (omega arith)
  used_numbers (fork {n = n} {paused = paused} {used = used} run k o new) =
      let u = used_numbers run in
      record {
        of_active = λ y i. in_cons (tr.task n ∷ paused) used (u.of_active y) i;
        of_left = λ y i. inr (u.of_left y i);
        of_task = λ p h. inr (of_task_next u p h);
        of_fork = λ p h f. either (last_or_below p n h) (λ e. inl (ap tr.operand e)) (λ i. inr (u.of_fork p i f));
        of_zero = inr u.of_zero;
        small = λ y i. either i (λ e. omega arith) (u.small y);
        distinct = (new, u.distinct);
        stacks_fit = let fit = u.stacks_fit in omega arith;
      }
  used_numbers (join {n = n} run k) =
      used_next (used_numbers run) (λ f. omega arith) (λ y i. either i (λ j. inl j) (λ j. inr (inr j))) (omega arith)
  used_numbers (halt {n = n} {left = left} {paused = paused} run k o) =
      used_next (used_numbers run) (λ f. omega arith) (halted_in_line (tr.task n) left paused) (omega arith)

  -- The two stacks together hold at most 1,024 tasks.
  pub stacks_length : {n : ℕ} {left active used : List ℕ} {last : ℕ → ℕ} → Run n left active used last →
      length active + length left ≤ TASKS
  stacks_length {used = used} run =
      let u = used_numbers run in
      let fit = u.stacks_fit in
      omega (arith, distinct_length TASKS used u.distinct u.small)

  -- ---- the stacks

  -- no task is ever twice in the line;
  pub distinct_stacks : {n : ℕ} {left active used : List ℕ} {last : ℕ → ℕ} → Run n left active used last → DistinctStacks left active
  distinct_stacks start = record { of_active = (λ i. i, tt); of_left = tt; disjoint = λ y i j. i }
  distinct_stacks (access run k o) = distinct_stacks run
  distinct_stacks (fork {n = n} {left = left} run k o new) =
      let d = distinct_stacks run in
      let u = used_numbers run in
      record {
        of_active = (λ i. new (u.of_active (tr.operand n) i), d.of_active);
        of_left = d.of_left;
        disjoint = λ y i j. either j (λ e. new (u.of_left (tr.operand n) (in_eq left (sym e) i))) (d.disjoint y i);
      }
  distinct_stacks (join run k) =
      let d = distinct_stacks run in
      record { of_active = d.of_active; of_left = d.of_left.1; disjoint = λ y i. d.disjoint y (inr i) }
  distinct_stacks (halt {n = n} {paused = paused} run k o) =
      let d = distinct_stacks run in
      record {
        of_active = d.of_active.1;
        of_left = (λ i. d.disjoint (tr.task n) i (inl refl), d.of_left);
        disjoint = λ y i j. either i (λ e. d.of_active.0 (in_eq paused (sym e) j)) (λ l. d.disjoint y l (inr j));
      }

  -- ---- task 0 stays until the run is over

  -- Where a task is active, the lowest is task 0.
  pub ends_in_zero : {n : ℕ} {left active used : List ℕ} {last : ℕ → ℕ} → Run n left active used last → EndsInZero active
  ends_in_zero start = refl
  ends_in_zero (access run k o) = ends_in_zero run
  ends_in_zero (fork run k o new) = ends_in_zero run
  ends_in_zero (join run k) = ends_in_zero run
  ends_in_zero (halt {n = n} {paused = paused} run k o) = tail_ends (tr.task n) paused (ends_in_zero run)

  -- While a task runs, task 0 is active.
  pub zero_active : {n x : ℕ} {left paused used : List ℕ} {last : ℕ → ℕ} → Run n left (x ∷ paused) used last → In 0 (x ∷ paused)
  zero_active {x = x} {paused = paused} run = zero_in x paused (ends_in_zero run)
