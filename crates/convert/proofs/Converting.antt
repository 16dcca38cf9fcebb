-- The loop over the events: before event i the halts before it are set, and the cells hold the line after the events before it, with the rule that was. Assumes
-- nothing.
use Prim.Native.Nat.{ℕ, suc, ◌+◌, ◌<◌, ◌≤◌}
use mathlib.Core.Path.{◌≡◌, refl, sym, ap, ◌∙◌}
use mathlib.Core.Bool.{and-false}
use mathlib.Core.List.{List}
use mathlib.Core.Logic.{◌⊎◌, inl, inr, ◌≢◌}
use native.Mathlib.Omega.{arith}
use lib.Dec.{ltb}
use lib.ListN.{length, get_or, set, length-set}
use lib.Seq.{get_or-set_same, get_or-set_other}
use borrow.Author.Tests.{eq-eqb, ne_eqb, lt-ltb, le-ltb}
use Rattle.trace.specs.Trace.{Trace, trace_of, HALT, WORKSPACE_CELLS}
use Rattle.trace.specs.Line.{Line as TraceLine, passes, fails, halt_operand, halt_operand_before, line_after}
use Rattle.trace.specs.Graph.{graph_events}
use Rattle.trace.proofs.Tests.{either, same_or_not, lt_or_le}
use Rattle.trace.proofs.Lines.{by_check, line_more, halt_meets, graph_all, graph_broken}
use Rattle.trace.proofs.Run.{line_of}
use Rattle.trace.proofs.TwoStacks.{line_of_law}
use Rattle.cells.specs.Cells.{SameBeyond}
use Rattle.cells.proofs.Rests.{rest_refl, rest_trans}
use Rattle.line.specs.declared.Line.{Line}
use Rattle.line.specs.Rules.{rule_of}
use Rattle.line.specs.Cells.{resumed_in, depths, started_in}
use Rattle.std.specs.Prelude.{Result, Ok, Err}
use Rattle.trace.specs.declared.Row.{Row}
use Rattle.line.specs.Steps.{after_in, rowed, event_in, Movable}
use Rattle.line.specs.Held.{LineAt, Sound}
use Rattle.line.proofs.Moves.{resumed_is, start_length, start_free, free_beyond}
use Rattle.line.proofs.EventLaw.{Given, line_start}
use Rattle.line.proofs.Events.{line_keeps, event_broken, event_next, event_movable, event_free}
use Rattle.convert.specs.Conversion.{named_after, operand_at, first_break}
use Rattle.convert.specs.States.{SetBefore, HaltsAreSet}

-- ---- the operand of a halt

module _ {tr : Trace} {i : ℕ} {c : List ℕ} {line : Line} (at : LineAt halt_operand_before tr i c line) where
  -- The cell that is read is the one that the rule of K6 asks for.
  resumed_at : (before : TraceLine) → line_after halt_operand_before tr i ≡ passes before → resumed_in c line ≡ halt_operand before
  unfolding halt_operand
  resumed_at before e =
      let same : line_of at.left at.active at.used ≡ before = cc (line_of_law halt_operand_before tr at.run, e) in
      resumed_is at.active at.cells ∙ ap halt_operand same

  -- What the step is given for event i: of a halt, whose own operand is 0, the task that resumes, else its own.
  abbrev Chosen : ℕ → Type 0
  Chosen value =
      ((tr.kind i ≡ HALT) × (tr.operand i ≡ 0) × (value ≡ resumed_in c line)) ⊎ ((tr.kind i ≢ HALT) × (value ≡ tr.operand i))

  given_chosen : (value : ℕ) → Chosen value → Given halt_operand_before tr i value
  unfolding halt_operand_before
  given_chosen value (inl h) =
      record {
        own = λ k. absurd (k h.0);
        halts = λ k before e.
            rw (h.1, h.2, resumed_at before e) (eq-eqb (halt_operand before) (halt_operand before) refl);
      }
  given_chosen value (inr h) = record { own = λ k. h.1; halts = λ k. absurd (h.0 k) }

pub started_long : (lent entry : List ℕ) → WORKSPACE_CELLS ≤ length lent → entry ≡ started_in lent → length entry ≡ length lent
started_long lent entry room e = ap length e ∙ start_length lent room

-- ---- the loop

module _ (kinds tasks operands entry : List ℕ) where
  abbrev tr : Trace
  tr = trace_of kinds tasks operands

  -- Before event i.
  pub record Converting (o c : List ℕ) (line : Line) (i : ℕ) : Type 0 where
    pub fit : i ≤ length kinds
    pub at : LineAt halt_operand_before tr i c line
    pub set : SetBefore kinds tasks operands i o
    pub beyond : SameBeyond entry c

  before_all : (p : ℕ) → get_or operands p 0 ≡ operand_at tr 0 p
  unfolding operand_at trace_of
  before_all p = rw (le-ltb p 0 (omega arith))

  -- The workspace as the line starts is the one that the loop finds.
  pub converting_begins : (lent : List ℕ) → WORKSPACE_CELLS ≤ length lent → entry ≡ started_in lent → (line : Line) → line ≡ depths 1 0
      → Converting operands entry line 0
  converting_begins lent room e line f =
      record {
        fit = omega arith;
        at = rw (e, f) (line_start halt_operand_before tr lent room);
        set = record { long = refl; each = before_all };
        beyond = rest_refl 0 entry;
      }

  -- What the loop leaves beyond the tables is what was lent.
  pub set_of_lent : (lent : List ℕ) → WORKSPACE_CELLS ≤ length lent → entry ≡ started_in lent → {o c : List ℕ}
      → HaltsAreSet kinds tasks operands entry o c → HaltsAreSet kinds tasks operands lent o c
  set_of_lent lent room e s =
      record { set = s.set; beyond = rest_trans (rw (← e) at (free_beyond (start_free lent room))) s.beyond }

  -- Nothing more is to be set where event i is the first to break a rule,
  set_broken : {o c : List ℕ} {line : Line} {i : ℕ} → Converting o c line i → i < length kinds → {number : ℕ}
      → line_after halt_operand_before tr (suc i) ≡ fails number → SetBefore kinds tasks operands (first_break tr (length kinds)) o
  unfolding first_break
  set_broken {i = i} w more {number} broken =
      let kept = line_keeps w.at in
      rw (graph_broken halt_operand_before tr i (length kinds) number kept.line more kept.reached broken) w.set

  -- or where all events have been taken.
  pub converting_ends : {o c : List ℕ} {line : Line} {i : ℕ} → Converting o c line i → length kinds ≤ i → HaltsAreSet kinds tasks operands entry o c
  unfolding first_break
  converting_ends {o = o} {i = i} w all =
      let fit = w.fit in
      let whole : i ≡ length kinds = omega arith in
      let kept = line_keeps w.at in
      let stop : graph_events halt_operand_before tr (length kinds) ≡ i =
      ap (graph_events halt_operand_before tr) (sym whole) ∙ graph_all halt_operand_before tr i kept.line kept.reached in
      record { set = rw stop w.set; beyond = w.beyond }

  module _ {o c : List ℕ} {line : Line} {i : ℕ} (w : Converting o c line i) (more : i < length kinds) where
    -- The operand that is read is the trace's own.
    pub own_read : get_or o i 0 ≡ tr.operand i
    unfolding operand_at
    own_read = w.set.each i ∙ rw (le-ltb i i (omega arith)) refl

    pub line_sound : Sound c line
    line_sound = record { rule = halt_operand_before; trace = tr; events = i; at = w.at }

    -- A halt whose operand is not 0 breaks row 12 as it was.
    pub stops_named : get_or kinds i 0 ≡ HALT → get_or o i 0 ≢ 0 → HaltsAreSet kinds tasks operands entry o c
    unfolding halt_operand_before trace_of
    stops_named halts some =
        let kept = line_keeps w.at in
        by_check (line_after halt_operand_before tr (suc i))
        (λ next after. absurd (some (own_read ∙ halt_meets halt_operand_before tr i kept.line next kept.reached after halts)))
        (λ number broken. record { set = set_broken w more broken; beyond = w.beyond })

    -- What is read of any other event, and chosen for it.
    abbrev pub Read : ℕ → Type 0
    Read value =
        ((get_or kinds i 0 ≡ HALT) × (get_or o i 0 ≡ 0) × (value ≡ resumed_in c line)) ⊎ ((get_or kinds i 0 ≢ HALT) × (value ≡ get_or o i 0))

    chosen : {value : ℕ} → Read value → Chosen w.at value
    unfolding trace_of
    chosen (inl h) = inl (h.0, sym own_read ∙ h.1, h.2)
    chosen (inr h) = inr (h.0, h.1 ∙ own_read)

    -- It is held to the rules with that.
    module _ (value : ℕ) (read : Read value) (result : Result (Unit {0}) Row) (exit : List ℕ)
        (said : rowed (after_in line (rule_of (get_or kinds i 0))) result exit ≡ event_in c line (get_or kinds i 0) (get_or tasks i 0) value) where
      abbrev next : Line
      next = after_in line (rule_of (get_or kinds i 0))

      given : Given halt_operand_before tr i value
      given = given_chosen w.at value (chosen read)

      taken : rowed next result exit ≡ event_in c line (tr.kind i) (tr.task i) value
      unfolding trace_of
      taken = said

      still_beyond : SameBeyond entry exit
      still_beyond = rest_trans w.beyond (free_beyond (event_free w.at given next result exit taken))

      -- An event that meets a row stops the conversion too.
      pub stops_broken : (row : Row) → result ≡ Err row → HaltsAreSet kinds tasks operands entry o exit
      stops_broken row met =
          let b = event_broken w.at given next result exit taken met in
          let broken = line_more halt_operand_before tr i b.line b.kept_before ∙ b.broken in
          record { set = set_broken w more broken; beyond = still_beyond }

      pub long_exit : length exit ≡ length entry
      long_exit = still_beyond.long

      pub can_move : result ≡ Ok tt → Movable line (get_or kinds i 0)
      unfolding trace_of
      can_move none = event_movable w.at given next result exit taken none

      -- What event i gets is what the conversion is to set there,
      value_at : Chosen w.at value → value ≡ operand_at tr (suc i) i
      unfolding operand_at named_after
      value_at (inl h) =
          let kept = line_keeps w.at in
          rw (lt-ltb i (suc i) (omega arith), eq-eqb (tr.kind i) HALT h.0, kept.reached, named_after)
          (h.2 ∙ resumed_at w.at kept.line kept.reached)
      value_at (inr h) = rw (ne_eqb (tr.kind i) HALT h.0, and-false (ltb i (suc i))) h.1

      -- and at no other event does it set more.
      other_at : (p : ℕ) → p ≢ i → operand_at tr i p ≡ operand_at tr (suc i) p
      unfolding operand_at
      other_at p h =
          either (lt_or_le p i) (λ l. rw (lt-ltb p i l, lt-ltb p (suc i) (omega arith)))
          (λ l. rw (le-ltb p i l, le-ltb p (suc i) (omega arith)))

      pub converting_more : length operands ≡ length kinds → result ≡ Ok tt → (after : Line) → after ≡ next → Converting (set o i value) exit after (i + 1)
      converting_more whole none after e =
          let long = w.set.long in
          let one : i + 1 ≡ suc i = omega arith in
          rw one
          (record {
            fit = more;
            at = rw e (event_next w.at given next result exit taken none);
            set =
                record {
                  long = length-set o i value ∙ long;
                  each = λ p.
                      either (same_or_not p i) (λ f. rw f (get_or-set_same o i value 0 (omega arith) ∙ value_at (chosen read)))
                      (λ d. get_or-set_other o i p value 0 d ∙ (w.set.each p ∙ other_at p d));
                };
            beyond = still_beyond;
          })
