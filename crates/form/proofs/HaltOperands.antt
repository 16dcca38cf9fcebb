-- NO TEXT LINE MAKES A REFUSAL 12 (`no_row_12`): of the events that lines make, none is the first to break a line rule by row 12, a halt whose operand is not
-- the task that resumes. For each halt that a text puts in names the task below the top of the text's stack (`named_events`), and as long as the events keep
-- the rules, that stack is the running task and those paused below it (`agrees_next`). Past a broken rule the two may differ, but no later event is the first.
-- Assumes nothing.
use Prim.Native.Nat.{ℕ, zero, suc, ◌+◌}
use native.Mathlib.Nat.{add-zero, zero-add}
use native.Mathlib.Omega.{arith}
use mathlib.Core.Path.{◌≡◌, refl, sym, ap, subst, ◌∙◌}
use mathlib.Core.Bool.{Bool, true, false, cond}
use mathlib.Core.List.{List, [], ◌∷◌, ◌++◌, map, tail, append_assoc}
use mathlib.Core.Logic.{◌≢◌}
use lib.Dec.{eqb}
use lib.ListN.{get_or, drop}
use borrow.Author.Tests.{eqb-false, not-true, not-false}
use Rattle.trace.specs.Trace.{Trace, trace_of, Event, FORK, JOIN, HALT, is_access}
use Rattle.trace.specs.Line.{Line, Checked, passes, fails, row, start, forked, joined, halted, resumed, halt_operand, step_by_kind, step, line_after}
use Rattle.trace.specs.Demands.{BreaksFirst}
use Rattle.trace.proofs.EventKinds.{rest_is_halt}
use Rattle.trace.proofs.Lines.{line_more, passes_earlier}
use Rattle.form.specs.Events.{kind_of, event_of, halts, implied, events_of, pushed, stack_after, events_of_all, events_of_text}
use Rattle.form.specs.declared.Line.{Line as TextLine}
use Rattle.form.specs.declared.Operation.{Operation}
use Rattle.form.specs.declared.Operation.TheVariants.{Read, Write, Fork, Join}

-- ---- the stack, event by event

-- The stack after an event of this kind and operand: a fork pushes its operand, and a halt pops.
unfoldable stack_next : ℕ → ℕ → List ℕ → List ℕ
stack_next kind a stack =
    cond (is_access kind) stack (cond (eqb kind FORK) (a ∷ stack) (cond (eqb kind JOIN) stack (tail stack)))

-- Each halt among these events names the task below the top of the stack at its place.
abbrev Named : List ℕ → List Event → Type 0
Named stack [] = Unit {0}
Named stack (e ∷ es) = (e.kind ≡ HALT → e.operand ≡ resumed (tail stack)) × Named (stack_next e.kind e.operand stack) es

-- Those that a line implies do,
named_halts : (k : ℕ) (stack : List ℕ) (es : List Event) → Named (drop k stack) es → Named stack (halts k stack ++ es)
unfolding stack_next is_access
named_halts zero stack es h = h
named_halts (suc k) [] es h = h
named_halts (suc k) (task ∷ below) es h = (λ e. refl, named_halts k below es h)

-- a line's own event is no halt, and changes the stack as the line does,
named_own : (o : Operation) (task a : ℕ) (stack : List ℕ) (es : List Event) → Named (pushed o a stack) es
    → Named stack (record { kind = kind_of o; task = task; operand = a } ∷ es)
unfolding stack_next is_access
named_own Read task a stack es h = (λ e. absurd (omega arith), h)
named_own Write task a stack es h = (λ e. absurd (omega arith), h)
named_own Fork task a stack es h = (λ e. absurd (omega arith), h)
named_own Join task a stack es h = (λ e. absurd (omega arith), h)

-- and so all do, that lines make.
named_events : (stack : List ℕ) (lines : List TextLine) → Named stack (events_of_all stack lines)
unfolding events_of stack_after
named_events stack [] = tt
named_events stack (l ∷ lines) =
    rw append_assoc
    (named_halts (implied l.task stack) stack (event_of l ∷ events_of_all (stack_after stack l) lines)
    (named_own l.operation l.task l.operand (drop (implied l.task stack) stack) (events_of_all (stack_after stack l) lines)
    (named_events (stack_after stack l) lines)))

-- ---- one event of a trace

-- A check does not meet row 12, and where it passes, the tasks that run or are paused are this stack.
abbrev Fine : List ℕ → Checked Line → Type 0
Fine stack (passes line) = line.active ≡ stack
Fine stack (fails number) = number ≢ 12

fine_row : (number : ℕ) (condition : Bool) (stack : List ℕ) (next : Checked Line) → (condition ≡ true → number ≢ 12) → (condition ≡ false → Fine stack next)
    → Fine stack (row number condition next)
unfolding row
fine_row number true stack next met passed = met refl
fine_row number false stack next met passed = passed refl

fine_cond : (b : Bool) (s t : List ℕ) (c d : Checked Line) → (b ≡ true → Fine s c) → (b ≡ false → Fine t d) → Fine (cond b s t) (cond b c d)
fine_cond true s t c d f g = f refl
fine_cond false s t c d f g = g refl

module _ (tr : Trace) where
  -- If event n is a halt, it names the task below the top of this stack.
  abbrev NamedAt : ℕ → List ℕ → Type 0
  NamedAt n stack = tr.kind n ≡ HALT → tr.operand n ≡ resumed (tail stack)

  -- Then its rows do not meet row 12.
  fine_step : (n : ℕ) (line : Line) → NamedAt n line.active → Fine (stack_next (tr.kind n) (tr.operand n) line.active) (step halt_operand tr n line)
  unfolding halt_operand step step_by_kind stack_next forked joined halted
  fine_step n line named =
      fine_row 5 _ _ _ (λ e. omega arith)
      (λ known.
      fine_row 6 _ _ _ (λ e. omega arith)
      (λ runs.
      fine_row 7 _ _ _ (λ e. omega arith)
      (λ own.
      fine_cond (is_access (tr.kind n)) _ _ _ _ (λ a. fine_row 8 _ _ _ (λ e. omega arith) (λ e. refl))
      (λ a.
      fine_cond (eqb (tr.kind n) FORK) _ _ _ _ (λ f. fine_row 9 _ _ _ (λ e. omega arith) (λ e. fine_row 10 _ _ _ (λ g. omega arith) (λ g. refl)))
      (λ f.
      fine_cond (eqb (tr.kind n) JOIN) _ _ _ _ (λ j. fine_row 11 _ _ _ (λ e. omega arith) (λ e. refl))
      (λ j.
      fine_row 12 _ _ _ (λ e. absurd (eqb-false _ _ (not-true _ e) (named (rest_is_halt (tr.kind n) (not-false _ known) a f j)))) (λ e. refl)))))))

  -- ---- the events of a trace

  -- From position n on stand these events. Past them all is 0, which is no halt.
  record Shown (n : ℕ) (es : List Event) : Type 0 where
    kinds : (i : ℕ) → tr.kind (i + n) ≡ get_or (map (λ e. e.kind) es) i 0
    operands : (i : ℕ) → tr.operand (i + n) ≡ get_or (map (λ e. e.operand) es) i 0

  shown_head : (n : ℕ) (e : Event) (es : List Event) → Shown n (e ∷ es) → (tr.kind n ≡ e.kind) × (tr.operand n ≡ e.operand)
  shown_head n e es s = (rw zero-add at (s.kinds 0), rw zero-add at (s.operands 0))

  shown_rest : (n : ℕ) (e : Event) (es : List Event) → Shown n (e ∷ es) → Shown (suc n) es
  shown_rest n e es s =
      let more : (i : ℕ) → i + suc n ≡ suc i + n = λ i. omega arith in
      record { kinds = λ i. ap tr.kind (more i) ∙ s.kinds (suc i); operands = λ i. ap tr.operand (more i) ∙ s.operands (suc i) }

  -- If the first n events keep the rules, the tasks that run or are paused after them are this stack.
  abbrev Agrees : ℕ → List ℕ → Type 0
  Agrees n stack = (line : Line) → line_after halt_operand tr n ≡ passes line → line.active ≡ stack

  agrees_start : Agrees 0 (0 ∷ [])
  unfolding line_after start
  agrees_start line e = subst (Fine (0 ∷ [])) e refl

  named_head : (n : ℕ) (stack : List ℕ) (e : Event) (es : List Event) → Shown n (e ∷ es) → Named stack (e ∷ es) → NamedAt n stack
  named_head n stack e es shown named h = let s = shown_head n e es shown in s.1 ∙ named.0 (sym s.0 ∙ h)

  agrees_next : (n : ℕ) (stack : List ℕ) → NamedAt n stack → Agrees n stack → Agrees (suc n) (stack_next (tr.kind n) (tr.operand n) stack)
  agrees_next n stack named agrees line e =
      let before = passes_earlier halt_operand tr n (suc n) line (omega arith) e in
      let same = agrees before.0 before.1 in
      rw (sym (line_more halt_operand tr n before.0 before.1) ∙ e, same) at (fine_step n before.0 (rw same named))

  not_here : (n : ℕ) (b : BreaksFirst halt_operand tr n 12) → NamedAt n b.line.active → ⊥
  not_here n b named = (rw b.broken at (fine_step n b.line named)) refl

  -- No event from n on is the first that breaks a rule, by row 12.
  not_from : (i n : ℕ) (stack : List ℕ) (es : List Event) → Shown n es → Named stack es → Agrees n stack → BreaksFirst halt_operand tr (i + n) 12 → ⊥
  not_from i n stack [] shown named agrees b = not_here (i + n) b (λ h. let k = shown.kinds i in absurd (omega arith))
  not_from zero n stack (e ∷ es) shown named agrees b =
      let here = rw zero-add at b in
      not_here n here (rw (agrees here.line here.kept_before) (named_head n stack e es shown named))
  not_from (suc i) n stack (e ∷ es) shown named agrees b =
      let s = shown_head n e es shown in
      let next = agrees_next n stack (named_head n stack e es shown named) agrees in
      let more : suc i + n ≡ i + suc n = omega arith in
      not_from i (suc n) (stack_next e.kind e.operand stack) es (shown_rest n e es shown) named.1
      (rw (s.0, s.1) at next) (rw more at b)

-- ---- the events of a text

-- NO REFUSAL 12 OF A TEXT: no event that lines make is the first to break a line rule by row 12.
pub no_row_12 : (lines : List TextLine) (p : ℕ) → let es = events_of_text lines in
    BreaksFirst halt_operand (trace_of (map (λ e. e.kind) es) (map (λ e. e.task) es) (map (λ e. e.operand) es)) p 12 → ⊥
unfolding trace_of
no_row_12 lines p b =
    let es = events_of_text lines in
    let tr = trace_of (map (λ e. e.kind) es) (map (λ e. e.task) es) (map (λ e. e.operand) es) in
    not_from tr p 0 (0 ∷ []) es (record { kinds = λ i. rw add-zero; operands = λ i. rw add-zero }) (named_events (0 ∷ []) lines)
    (agrees_start tr) (rw add-zero b)
