-- The literal line of `specs/Line` is always the two stacks of a run: the first n events keep the line rules exactly if there is a run of n events, and
-- the line is then `left` turned round, then `active`. Assumes nothing.
use Prim.Native.Nat.{ℕ, zero, suc, ◌<◌}
use mathlib.Core.Path.{◌≡◌, refl, sym, ap, subst, ◌∙◌}
use mathlib.Core.Bool.{Bool, true, false, not, false≢true, and-false, and-true, or-false}
use mathlib.Core.List.{List, [], ◌∷◌, reverse_aux}
use mathlib.Core.Logic.{inl, inr}
use lib.Dec.{eqb, leb}
use borrow.Author.Tests.{eqb-true, eq-eqb, ne_eqb, leb-false, lt-leb, not-false}
use Rattle.trace.specs.Trace.{Trace, FORK, JOIN, HALT, is_kind, is_access, LOCATIONS, TASKS}
use Rattle.trace.specs.Line.{is_empty, is_head, is_member, is_left_of, put_left_of, remove}
use Rattle.trace.specs.Line.{Line, Checked, passes, fails, row, forked, joined, halted, step_by_kind, step, step_after, line_after}
use Rattle.trace.specs.Line.{start as startLine}
use Rattle.trace.proofs.Tests.{by_test, Tests, tests_fails, tests_false, test_eq, test_or}
use Rattle.trace.proofs.Lines.{line_more}
use Rattle.trace.proofs.EventKinds.{access_is_kind, rest_is_halt}
use Rattle.trace.proofs.Stacks.{In}
use Rattle.trace.proofs.Run.{line_of, DistinctStacks, Run, start, access, fork, join, halt, distinct_stacks}

-- ---- the tests of the rows

-- Row 10 asks whether the number has been used.
pub test_member : (a : ℕ) (l : List ℕ) → Tests (is_member a l) (In a l)
unfolding is_member
test_member a [] = (false≢true, λ i. absurd i)
test_member a (y ∷ l) = test_or (eqb a y) (is_member a l) (test_eq a y) (test_member a l)

-- A stack with the top x.
pub head_is : (x : ℕ) (l : List ℕ) → is_head x l ≡ true → (rest : List ℕ) × (l ≡ x ∷ rest)
unfolding is_head
head_is x [] e = absurd (false≢true e)
head_is x (y ∷ l) e = (l, ap (λ (z : ℕ). z ∷ l) (eqb-true y x e))

pub head_same : (x : ℕ) (l : List ℕ) → is_head x (x ∷ l) ≡ true
unfolding is_head
head_same x l = eq-eqb x x refl

head_absent : (x : ℕ) (l : List ℕ) → (In x l → ⊥) → is_head x l ≡ false
unfolding is_head
head_absent x [] h = refl
head_absent x (y ∷ l) h = ne_eqb y x (λ e. h (inl (sym e)))

left_absent : (a x : ℕ) (l : List ℕ) → (In x l → ⊥) → is_left_of a x l ≡ false
unfolding is_left_of
left_absent a x [] h = refl
left_absent a x (y ∷ l) h = rw (head_absent x l (λ i. h (inr i)), left_absent a x l (λ i. h (inr i)), and-false)

-- ---- the line of two stacks, from the left to the running task: what is asked or changed right of `left` is not seen in it

left_beyond : (a x : ℕ) (left right : List ℕ) → (In x left → ⊥) → is_head x right ≡ false → is_left_of a x (reverse_aux left right) ≡ is_left_of a x right
unfolding is_left_of is_head
left_beyond a x [] right h e = refl
left_beyond a x (y ∷ left) right h e =
    left_beyond a x left (y ∷ right) (λ i. h (inr i)) (ne_eqb y x (λ q. h (inl (sym q)))) ∙ rw (e, and-false)

put_beyond : (child x : ℕ) (left right right' : List ℕ) → (In x left → ⊥) → put_left_of child x right ≡ right' →
    put_left_of child x (reverse_aux left right) ≡ reverse_aux left right'
unfolding put_left_of
put_beyond child x [] right right' h e = e
put_beyond child x (y ∷ left) right right' h e =
    put_beyond child x left (y ∷ right) (y ∷ right') (λ i. h (inr i)) (rw (ne_eqb y x (λ q. h (inl (sym q)))) (ap (λ (z : List ℕ). y ∷ z) e))

remove_beyond : (a : ℕ) (left right right' : List ℕ) → (In a left → ⊥) → remove a right ≡ right' →
    remove a (reverse_aux left right) ≡ reverse_aux left right'
unfolding remove
remove_beyond a [] right right' h e = e
remove_beyond a (y ∷ left) right right' h e =
    remove_beyond a left (y ∷ right) (y ∷ right') (λ i. h (inr i)) (rw (ne_eqb y a (λ q. h (inl (sym q)))) (ap (λ (z : List ℕ). y ∷ z) e))

-- The task immediately left of the running one is the top of `left`.
pub left_is_head : (a x : ℕ) (left paused : List ℕ) → DistinctStacks left (x ∷ paused) → is_left_of a x (reverse_aux left (x ∷ paused)) ≡ is_head a left
unfolding is_left_of is_head
left_is_head a x [] paused d =
    let absent = d.of_active.0 in
    rw (head_absent x paused absent, left_absent a x paused absent, and-false)
left_is_head a x (y ∷ left) paused d =
    let absent = d.of_active.0 in
    left_beyond a x left (y ∷ (x ∷ paused)) (λ i. d.disjoint x (inr i) (inl refl)) (ne_eqb y x (λ q. d.disjoint x (inl (sym q)) (inl refl)))
    ∙ rw (eq-eqb x x refl, head_absent x paused absent, left_absent a x paused absent, and-false, and-true, or-false)

put_line : (child x : ℕ) (left paused : List ℕ) → (In x left → ⊥) →
    put_left_of child x (reverse_aux left (x ∷ paused)) ≡ reverse_aux left (child ∷ (x ∷ paused))
unfolding put_left_of
put_line child x left paused h = put_beyond child x left (x ∷ paused) (child ∷ (x ∷ paused)) h (rw (eq-eqb x x refl))

remove_line : (a : ℕ) (left right : List ℕ) → (In a left → ⊥) → remove a (reverse_aux (a ∷ left) right) ≡ reverse_aux left right
unfolding remove
remove_line a left right h = remove_beyond a left (a ∷ right) right h (rw (eq-eqb a a refl))

-- A fork pushes the child on `active`.
pub forked_line : (child x : ℕ) (left paused used : List ℕ) → DistinctStacks left (x ∷ paused) →
    forked x child (line_of left (x ∷ paused) used) ≡ line_of left (child ∷ (x ∷ paused)) (child ∷ used)
unfolding forked
forked_line child x left paused used d =
    ap (λ (z : List ℕ). record { tasks = z; active = child ∷ (x ∷ paused); used = child ∷ used })
    (put_line child x left paused (λ i. d.disjoint x i (inl refl)))

-- A join pops `left`.
pub joined_line : (a : ℕ) (left active used : List ℕ) → DistinctStacks (a ∷ left) active →
    joined a (line_of (a ∷ left) active used) ≡ line_of left active used
unfolding joined
joined_line a left active used d =
    ap (λ (z : List ℕ). record { tasks = z; active = active; used = used }) (remove_line a left active d.of_left.0)

-- A halt moves the running task from the top of `active` to the top of `left`.
pub halted_line : (x : ℕ) (left paused used : List ℕ) → halted (line_of left (x ∷ paused) used) ≡ line_of (x ∷ left) paused used
unfolding halted
halted_line x left paused used = refl

-- ---- one event at a state of two stacks whose running task is the event's

module _ (haltRule : Line → ℕ) (tr : Trace) (n : ℕ) where
  -- Rows 5, 6 and 7 pass, and the row for the kind is left.
  pub step_is : (left paused used : List ℕ) → is_kind (tr.kind n) ≡ true →
      step haltRule tr n (line_of left (tr.task n ∷ paused) used)
      ≡ step_by_kind haltRule (tr.kind n) (tr.task n) (tr.operand n) (line_of left (tr.task n ∷ paused) used)
  unfolding step row is_empty
  step_is left paused used k = rw (k, head_same (tr.task n) paused)

  -- Then each kind of event, with what its row asks, passes.
  pub step_access : (left paused used : List ℕ) → is_access (tr.kind n) ≡ true → tr.operand n < LOCATIONS →
      step haltRule tr n (line_of left (tr.task n ∷ paused) used) ≡ passes (line_of left (tr.task n ∷ paused) used)
  unfolding step_by_kind row
  step_access left paused used k o =
      step_is left paused used (access_is_kind (tr.kind n) k) ∙ rw (k, lt-leb LOCATIONS (tr.operand n) o)

  pub step_fork : (left paused used : List ℕ) → DistinctStacks left (tr.task n ∷ paused) → tr.kind n ≡ FORK → tr.operand n < TASKS →
      (In (tr.operand n) used → ⊥) →
      step haltRule tr n (line_of left (tr.task n ∷ paused) used) ≡ passes (line_of left (tr.operand n ∷ (tr.task n ∷ paused)) (tr.operand n ∷ used))
  unfolding step_by_kind row is_kind is_access
  step_fork left paused used d k o new =
      step_is left paused used (rw k)
      ∙ rw (k, lt-leb TASKS (tr.operand n) o, tests_false (is_member (tr.operand n) used) (test_member (tr.operand n) used) new)
      (ap passes (forked_line (tr.operand n) (tr.task n) left paused used d))

  pub step_join : (left paused used : List ℕ) → DistinctStacks (tr.operand n ∷ left) (tr.task n ∷ paused) → tr.kind n ≡ JOIN →
      step haltRule tr n (line_of (tr.operand n ∷ left) (tr.task n ∷ paused) used) ≡ passes (line_of left (tr.task n ∷ paused) used)
  unfolding step_by_kind row is_kind is_access
  step_join left paused used d k =
      step_is (tr.operand n ∷ left) paused used (rw k)
      ∙ rw (k, left_is_head (tr.operand n) (tr.task n) (tr.operand n ∷ left) paused d, head_same (tr.operand n) left)
      (ap passes (joined_line (tr.operand n) left (tr.task n ∷ paused) used d))

  pub step_halt : (left paused used : List ℕ) → tr.kind n ≡ HALT → tr.operand n ≡ haltRule (line_of left (tr.task n ∷ paused) used) →
      step haltRule tr n (line_of left (tr.task n ∷ paused) used) ≡ passes (line_of (tr.task n ∷ left) paused used)
  unfolding step_by_kind row is_kind is_access
  step_halt left paused used k o =
      step_is left paused used (rw k)
      ∙ rw (k, eq-eqb (tr.operand n) (haltRule (line_of left (tr.task n ∷ paused) used)) o)
      (ap passes (halted_line (tr.task n) left paused used))

module _ (haltRule : Line → ℕ) (tr : Trace) where
  -- A run of n events that leaves this line.
  pub record RunTo (n : ℕ) (line : Line) : Type 0 where
    pub left : List ℕ
    pub active : List ℕ
    pub used : List ℕ
    pub last : ℕ → ℕ
    pub run : Run haltRule tr n left active used last
    pub line_is : line ≡ line_of left active used

  -- Where the rules are kept, a run leaves the line.
  abbrev KeptBy : ℕ → Checked Line → Type 0
  KeptBy n (passes line) = RunTo n line
  KeptBy n (fails number) = Unit {0}

  kept_row : (n number : ℕ) (condition : Bool) (next : Checked Line) → (condition ≡ false → KeptBy n next) → KeptBy n (row number condition next)
  unfolding row
  kept_row n number true next f = tt
  kept_row n number false next f = f refl

  run_to : {n : ℕ} {left active used : List ℕ} {last : ℕ → ℕ} (line : Line) → line ≡ line_of left active used →
      Run haltRule tr n left active used last → RunTo n line
  run_to {left = left} {active = active} {used = used} {last = last} line e run =
      record { left = left; active = active; used = used; last = last; run = run; line_is = e }

  module _ {n : ℕ} {left paused used : List ℕ} {last : ℕ → ℕ} (run : Run haltRule tr n left (tr.task n ∷ paused) used last) where
    kept_access : is_access (tr.kind n) ≡ true →
        KeptBy (suc n) (row 8 (leb LOCATIONS (tr.operand n)) (passes (line_of left (tr.task n ∷ paused) used)))
    kept_access k =
        kept_row (suc n) 8 _ _ (λ e. run_to _ refl (access run k (leb-false LOCATIONS (tr.operand n) e)))

    kept_fork : tr.kind n ≡ FORK →
        KeptBy (suc n)
        (row 9 (leb TASKS (tr.operand n))
        (row 10 (is_member (tr.operand n) used)
        (passes (forked (tr.task n) (tr.operand n) (line_of left (tr.task n ∷ paused) used)))))
    kept_fork k =
        let a = tr.operand n in
        kept_row (suc n) 9 _ _ (λ e. kept_row (suc n) 10 _ _ (λ e₁.
        run_to _ (forked_line a (tr.task n) left paused used (distinct_stacks haltRule tr run))
        (fork run k (leb-false TASKS a e) (tests_fails (is_member a used) (test_member a used) e₁))))

    kept_join : tr.kind n ≡ JOIN →
        KeptBy (suc n)
        (row 11 (not (is_left_of (tr.operand n) (tr.task n) (reverse_aux left (tr.task n ∷ paused))))
        (passes (joined (tr.operand n) (line_of left (tr.task n ∷ paused) used))))
    kept_join k =
        let a = tr.operand n in
        kept_row (suc n) 11 _ _ (λ e.
        let is-left = not-false (is_left_of a (tr.task n) (reverse_aux left (tr.task n ∷ paused))) e in
        let top = head_is a left (sym (left_is_head a (tr.task n) left paused (distinct_stacks haltRule tr run)) ∙ is-left) in
        let run' = subst (λ (l : List ℕ). Run haltRule tr n l (tr.task n ∷ paused) used last) top.1 run in
        run_to _
        (ap (λ (l : List ℕ). joined a (line_of l (tr.task n ∷ paused) used)) top.1
        ∙ joined_line a top.0 (tr.task n ∷ paused) used (distinct_stacks haltRule tr run'))
        (join run' k))

    kept_halt : tr.kind n ≡ HALT →
        KeptBy (suc n)
        (row 12 (not (eqb (tr.operand n) (haltRule (line_of left (tr.task n ∷ paused) used))))
        (passes (halted (line_of left (tr.task n ∷ paused) used))))
    kept_halt k =
        let needed = haltRule (line_of left (tr.task n ∷ paused) used) in
        kept_row (suc n) 12 _ _ (λ e.
        run_to _ (halted_line (tr.task n) left paused used)
        (halt run k (eqb-true (tr.operand n) needed (not-false (eqb (tr.operand n) needed) e))))

    kept_by_kind : is_kind (tr.kind n) ≡ true →
        KeptBy (suc n) (step_by_kind haltRule (tr.kind n) (tr.task n) (tr.operand n) (line_of left (tr.task n ∷ paused) used))
    unfolding step_by_kind
    kept_by_kind named =
        by_test (is_access (tr.kind n)) (λ e. rw e (kept_access e)) (λ e. rw e
        (by_test (eqb (tr.kind n) FORK) (λ f. rw f (kept_fork (eqb-true (tr.kind n) FORK f))) (λ f. rw f
        (by_test (eqb (tr.kind n) JOIN) (λ j. rw j (kept_join (eqb-true (tr.kind n) JOIN j))) (λ j. rw j
        (kept_halt (rest_is_halt (tr.kind n) named e f j)))))))

  kept_step : {n : ℕ} {left active used : List ℕ} {last : ℕ → ℕ} → Run haltRule tr n left active used last →
      KeptBy (suc n) (step haltRule tr n (line_of left active used))
  unfolding step
  kept_step {n = n} {left = left} {active = active} {used = used} {last = last} run =
      kept_row (suc n) 5 _ _ (λ named. kept_row (suc n) 6 _ _ (λ e. kept_row (suc n) 7 _ _ (λ runs.
      let top = head_is (tr.task n) active (not-false (is_head (tr.task n) active) runs) in
      rw top.1
      (kept_by_kind (subst (λ (l : List ℕ). Run haltRule tr n left l used last) top.1 run) (not-false (is_kind (tr.kind n)) named)))))

  kept_after : (n : ℕ) (before : Checked Line) → KeptBy n before → KeptBy (suc n) (step_after haltRule tr n before)
  unfolding step_after
  kept_after n (passes line) r = rw r.line_is (kept_step r.run)
  kept_after n (fails number) r = tt

  kept : (n : ℕ) → KeptBy n (line_after haltRule tr n)
  unfolding line_after startLine
  kept zero = run_to _ refl start
  kept (suc n) = kept_after n (line_after haltRule tr n) (kept n)

  -- Where the first n events keep the rules there is a run of them, and the line is its two stacks,
  pub run_of : (n : ℕ) (line : Line) → line_after haltRule tr n ≡ passes line → RunTo n line
  run_of n line e = let r : KeptBy n (passes line) = subst (λ (c : Checked Line). KeptBy n c) e (kept n) in r

  -- and where there is a run of n events they keep the rules, and the line is its two stacks.
  pub line_of_law : {n : ℕ} {left active used : List ℕ} {last : ℕ → ℕ} → Run haltRule tr n left active used last →
      line_after haltRule tr n ≡ passes (line_of left active used)
  unfolding line_after startLine
  line_of_law start = refl
  line_of_law (access {n = n} {left = left} {paused = paused} {used = used} run k o) =
      line_more haltRule tr n (line_of left (tr.task n ∷ paused) used) (line_of_law run) ∙ step_access haltRule tr n left paused used k o
  line_of_law (fork {n = n} {left = left} {paused = paused} {used = used} run k o new) =
      line_more haltRule tr n (line_of left (tr.task n ∷ paused) used) (line_of_law run)
      ∙ step_fork haltRule tr n left paused used (distinct_stacks haltRule tr run) k o new
  line_of_law (join {n = n} {left = left} {paused = paused} {used = used} run k) =
      line_more haltRule tr n (line_of (tr.operand n ∷ left) (tr.task n ∷ paused) used) (line_of_law run)
      ∙ step_join haltRule tr n left paused used (distinct_stacks haltRule tr run) k
  line_of_law (halt {n = n} {left = left} {paused = paused} {used = used} run k o) =
      line_more haltRule tr n (line_of left (tr.task n ∷ paused) used) (line_of_law run) ∙ step_halt haltRule tr n left paused used k o
