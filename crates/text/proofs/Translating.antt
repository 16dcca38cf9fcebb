-- The loop of `translate_into`: what the text comes to from here on is what it comes to from its start. And `translate`: a text that passes on spare
-- slices passes again. Assumes nothing.
use Prim.Native.Nat.{ℕ, ◌+◌, ◌≤◌, ◌<◌}
use native.Mathlib.Numerals.{add-one}
use native.Mathlib.Omega.{arith}
use mathlib.Core.Path.{◌≡◌, refl, sym, ap, ◌∙◌}
use mathlib.Core.Bool.{true, false}
use mathlib.Core.List.{List, [], ◌∷◌, ◌++◌}
use mathlib.Core.Option.{none, some}
use lib.Dec.{ltb}
use lib.ListN.{length, length-append}
use borrow.Author.Tests.{ltb-false, eqb-true}
use Rattle.std.specs.Prelude.{Result, Ok, Err, ◌==◌}
use Rattle.trace.specs.Trace.{Event}
use Rattle.trace.specs.Outcome.{Reply, says, refused}
use Rattle.trace.specs.Slices.{Slices, store_all, Translated, leaving}
use Rattle.trace.specs.Answers.{reply, translated_of}
use Rattle.trace.specs.Rows.{refusal_at}
use Rattle.trace.specs.declared.Row.TheVariants.{NoLine, LongText}
use Rattle.trace.specs.declared.Refusal.{Refusal}
use Rattle.trace.proofs.Tests.{by_test}
use Rattle.trace.proofs.Slices.{store_all_append}
use Rattle.form.specs.Reading.{line, parse}
use Rattle.form.specs.Events.{events_of, stack_after}
use Rattle.form.specs.Decided.{MAX_TEXT_EVENTS, DecidedBy}
use Rattle.form.specs.Translation.{refusal, prepend, events_from, FIRST_LINE, translation, translated}
use Rattle.text.specs.Answers.{attempt_of, attempted, tasks_on, StackAfter, added}
use Rattle.form.specs.declared.Line.{Line}
use Rattle.text.specs.declared.events.Stack.{Stack}
use Rattle.form.proofs.Parsing.{length_after_line, parse_nil, parse_none, parse_line}
use Rattle.form.proofs.EventCounts.{length_events, length_stack_after}
use Rattle.text.proofs.StackLaws.{length_tasks}
use Rattle.form.proofs.TextForm.{translated_decided}

-- `number` lines are read, up to these bytes of the text; they made `count` events and left this stack.
pub record Translating (text : List ℕ) (b₀ b : Slices) (stack : Stack) (count : ℕ) (left : List ℕ) (number : ℕ) : Type 0 where
  pub counted : number ≤ FIRST_LINE + count
  pub state : StackAfter count stack
  pub comes_to : attempted (events_from number count (tasks_on stack) (parse left)) count b ≡ attempted (translation text) 0 b₀

pub translating_begins : (text : List ℕ) (b : Slices) (stack : Stack) → tasks_on stack ≡ 0 ∷ [] → stack.depth ≡ 1
    → Translating text b b stack 0 text FIRST_LINE
unfolding translation
translating_begins text b stack e d =
    record {
      counted = omega arith;
      state = record { counted = omega arith; deep = omega arith };
      comes_to = rw e;
    }

attempted_prepend : (es : List Event) (reply : Reply (List Event)) (count : ℕ) (b : Slices)
    → attempted (prepend es reply) count b ≡ attempted reply (count + length es) (store_all b count es)
attempted_prepend es (says more) count b =
    let e : count + length (es ++ more) ≡ count + length es + length more = simp length-append (omega arith) in
    rw (e, store_all_append b count es more)
attempted_prepend es (refused number position) count b = refl

-- What `is_at_end` says.
some_left : (s : List ℕ) → false ≡ (length s == 0) → s ≡ [] → ⊥
some_left [] e f = let z : ◌≡◌ {A = ℕ} 0 1 = cc in omega arith
some_left (x ∷ s) e f = let z = ap length f in omega arith

none_left : (s : List ℕ) → true ≡ (length s == 0) → s ≡ []
none_left [] e = refl
none_left (x ∷ s) e = let z = eqb-true (length (x ∷ s)) 0 (sym e) in absurd (omega arith)

module _ (text : List ℕ) (b₀ b : Slices) (stack : Stack) (count : ℕ) (left : List ℕ) (number : ℕ) (t : Translating text b₀ b stack count left number) where
  pub translating_ends : true ≡ (length left == 0) → says (count, b) ≡ attempted (translation text) 0 b₀
  translating_ends k = let e : count + 0 ≡ count = omega arith in rw (none_left left k, parse_nil, e) at t.comes_to

  pub translating_no_line : false ≡ (length left == 0) → none ≡ line left → refusal (refusal_at NoLine number) ≡ attempted (translation text) 0 b₀
  translating_no_line k e = rw (parse_none left (some_left left k) (sym e)) at t.comes_to

  module _ (l : Line) (rest : List ℕ) (reads : some (l, rest) ≡ line left) where
    abbrev es : List Event
    es = events_of (tasks_on stack) l

    -- A line takes a byte at least.
    pub translating_less : length rest < length left
    translating_less = length_after_line left l rest (sym reads)

    pub translating_long : none ≡ added l (tasks_on stack) count b → refusal (refusal_at LongText number) ≡ attempted (translation text) 0 b₀
    unfolding added
    translating_long e =
        by_test (ltb MAX_TEXT_EVENTS (count + length es)) (λ f. rw (parse_line left l rest (sym reads), f) at t.comes_to)
        (λ f. let q = rw f at e in
        let z : ◌≡◌ {A = ℕ} 0 1 = cc in
        absurd (omega arith))

    -- What `added` found.
    record Fitting (count' : ℕ) (b' : Slices) (stack' : List ℕ) : Type 0 where
      fits : ltb MAX_TEXT_EVENTS (count + length es) ≡ false
      events : count' ≡ count + length es
      stored : b' ≡ store_all b count es
      after : stack' ≡ stack_after (tasks_on stack) l

    fitting : (count' : ℕ) (b' : Slices) (stack' : List ℕ) → some (count', b', stack') ≡ added l (tasks_on stack) count b → Fitting count' b' stack'
    unfolding added
    fitting count' b' stack' e =
        by_test (ltb MAX_TEXT_EVENTS (count + length es))
        (λ f. let q = rw f at e in let z : ◌≡◌ {A = ℕ} 0 1 = cc in absurd (omega arith))
        (λ f. let q = rw f at e in
        let p : ◌≡◌ {A = ℕ × Slices × List ℕ} (count', b', stack') (count + length es, store_all b count es, stack_after (tasks_on stack) l) = cc in
        record {
          fits = f;
          events = ap (λ (z : ℕ × Slices × List ℕ). z.0) p;
          stored = ap (λ (z : ℕ × Slices × List ℕ). z.1) p;
          after = ap (λ (z : ℕ × Slices × List ℕ). z.2) p;
        })

    pub translating_more : (stack' : Stack) (b' : Slices) (count' : ℕ) → some (count', b', tasks_on stack') ≡ added l (tasks_on stack) count b
        → Translating text b₀ b' stack' count' rest (number + 1)
    translating_more stack' b' count' told =
        let f = fitting count' b' (tasks_on stack') told in
        let u = ltb-false MAX_TEXT_EVENTS (count + length es) f.fits in
        let v = length_events (tasks_on stack) l in
        let w = length_stack_after (tasks_on stack) l in
        let x = length_tasks stack.tasks stack.depth in
        let y : length (tasks_on stack') ≡ length (stack_after (tasks_on stack) l) = ap length f.after in
        let z = length_tasks stack'.tasks stack'.depth in
        let s = t.counted in
        let i = t.state.deep in
        let j = f.events in
        record {
          counted = omega arith;
          state = record { counted = omega arith; deep = omega arith };
          comes_to =
              rw (add-one, f.after, f.events, f.stored, ← attempted_prepend)
              (rw (parse_line left l rest (sym reads), f.fits) at t.comes_to);
        }

-- ---- `translate`

-- The outcome of the translation, and what it means.
pub with_meaning : {text : List ℕ} {b : Slices} {o : Translated} → o ≡ translated text b → (o ≡ translated text b) × DecidedBy text b o
with_meaning {text} {b} e = (e, rw e (translated_decided text b))

pub meaning : {text : List ℕ} {b : Slices} {o : Translated} → o ≡ translated text b → DecidedBy text b o
meaning e = (with_meaning e).1

-- A refusal on spare slices: the text is refused.
pub translate_refused : (text : List ℕ) (x : Refusal) (b b₂ : Slices) → refusal x ≡ attempted (translation text) 0 b₂
    → translated_of (Err x) b ≡ translated text b
unfolding translated reply
translate_refused text x b b₂ e = from_reply (translation text) e
  where
    from_reply : (r : Reply (List Event)) → refusal x ≡ attempted r 0 b₂ → translated_of (Err x) b ≡ leaving b r
    from_reply (says all) p = let z : ◌≡◌ {A = ℕ} 0 1 = cc in absurd (omega arith)
    from_reply (refused number position) p =
        let n : x.number ≡ number = cc in
        let m : x.position ≡ position = cc in
        rw (n, m)

-- What passes on spare slices passes again.
pub translate_passed : (text : List ℕ) (count : ℕ) (b₁ b₂ : Slices) → says (count, b₁) ≡ attempted (translation text) 0 b₂
    → (s : Result ℕ Refusal) (b b' : Slices) → attempt_of s b' ≡ attempted (translation text) 0 b → translated_of s b' ≡ translated text b
unfolding translated reply
translate_passed text count b₁ b₂ e s b b' g = from_reply (translation text) e s g
  where
    from_reply : (r : Reply (List Event)) → says (count, b₁) ≡ attempted r 0 b₂
        → (s : Result ℕ Refusal) → attempt_of s b' ≡ attempted r 0 b → translated_of s b' ≡ leaving b r
    from_reply (says all) p (Ok m) q =
        let z : 0 + length all ≡ length all = omega arith in
        let o : ◌≡◌ {A = ℕ × Slices} (m, b') (0 + length all, store_all b 0 all) = cc in
        let c : m ≡ length all = ap (λ (y : ℕ × Slices). y.0) o ∙ z in
        let d : b' ≡ store_all b 0 all = ap (λ (y : ℕ × Slices). y.1) o in
        rw (c, d)
    from_reply (says all) p (Err x) q = let z : ◌≡◌ {A = ℕ} 0 1 = cc in absurd (omega arith)
    from_reply (refused number position) p s q = let z : ◌≡◌ {A = ℕ} 0 1 = cc in absurd (omega arith)
