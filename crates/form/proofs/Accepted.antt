-- AN ACCEPTED TEXT has at most 2,048 events (`translation_at_most`). Each of the three slices then holds its part of the events from its start on,
-- and the cells past them are as they were (`slices_after`). Assumes nothing.
use Prim.Native.Nat.{ℕ, suc, ◌+◌, ◌-◌, ◌≤◌}
use native.Mathlib.Omega.{arith}
use mathlib.Core.Path.{◌≡◌}
use mathlib.Core.List.{List, [], ◌∷◌, ◌++◌}
use lib.Dec.{ltb}
use lib.ListN.{length, length-append}
use borrow.Author.Tests.{ltb-false}
use Rattle.trace.specs.Trace.{Event}
use Rattle.trace.specs.Outcome.{Reply, says, refused}
use Rattle.trace.specs.Slices.{Slices}
use Rattle.trace.proofs.Tests.{by_test}
use Rattle.trace.proofs.Slices.{After, slices_hold}
use Rattle.form.specs.Reading.{Parsed, ends, malformed, line_then, parse}
use Rattle.form.specs.Events.{events_of, stack_after}
use Rattle.form.specs.Decided.{MAX_TEXT_EVENTS}
use Rattle.form.specs.Translation.{prepend, events_from, FIRST_LINE, translation, translated}

-- ---- the number of events

data AtMost (n : ℕ) : Reply (List Event) → Type 0 where
  events : (es : List Event) → length es ≤ n → AtMost n (says es)
  no_events : {number position : ℕ} → AtMost n (refused number position)

at_most_prepend : {m n : ℕ} {reply : Reply (List Event)} (es : List Event) → length es + m ≤ n → AtMost m reply → AtMost n (prepend es reply)
at_most_prepend es h (events more k) = events (es ++ more) (simp length-append (omega arith))
at_most_prepend es h no_events = no_events

events_at_most : (p : Parsed) (number count : ℕ) (stack : List ℕ) → count ≤ MAX_TEXT_EVENTS
    → AtMost (MAX_TEXT_EVENTS - count) (events_from number count stack p)
events_at_most ends number count stack h = events [] (omega arith)
events_at_most malformed number count stack h = no_events
events_at_most (line_then l rest) number count stack h =
    by_test (ltb MAX_TEXT_EVENTS (count + length (events_of stack l))) (λ e. rw e no_events)
    (λ e. let k = ltb-false MAX_TEXT_EVENTS (count + length (events_of stack l)) e in
    let i = events_at_most rest (suc number) (count + length (events_of stack l)) (stack_after stack l) k in
    rw e (at_most_prepend (events_of stack l) (omega arith) i))

pub translation_at_most : (text : List ℕ) (es : List Event) → translation text ≡ says es → length es ≤ MAX_TEXT_EVENTS
unfolding translation
translation_at_most text es e = count_of (rw e at (events_at_most (parse text) FIRST_LINE 0 (0 ∷ []) (omega arith)))
  where
    count_of : AtMost (MAX_TEXT_EVENTS - 0) (says es) → length es ≤ MAX_TEXT_EVENTS
    count_of (events all h) = omega arith

-- ---- the slices

-- The slices have the size that `translate` takes.
pub record Sized (b : Slices) : Type 0 where
  pub kinds : length b.kinds ≡ MAX_TEXT_EVENTS
  pub tasks : length b.tasks ≡ MAX_TEXT_EVENTS
  pub operands : length b.operands ≡ MAX_TEXT_EVENTS

pub slices_after : (text : List ℕ) (b : Slices) (es : List Event) → Sized b → translation text ≡ says es → After b es (translated text b).slices
unfolding translated
slices_after text b es r e =
    let n = translation_at_most text es e in
    let k = r.kinds in
    let t = r.tasks in
    let o = r.operands in
    rw e (slices_hold b es (record { kinds = omega arith; tasks = omega arith; operands = omega arith }))
