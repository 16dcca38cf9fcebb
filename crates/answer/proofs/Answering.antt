-- From the contracts of `text` and `judge` to the answer: a text's events are judged in the first cells of the three slices, every answer about them fits
-- the buffer (`rendered_holding`), and each row of `answer` is the answer of the definition. Assumes nothing.
use Prim.Native.Nat.{ℕ, ◌+◌, ◌≤◌, ◌<◌}
use native.Mathlib.Omega.{arith}
use mathlib.Core.Path.{◌≡◌, refl, sym, ap, subst, ◌∙◌}
use mathlib.Core.Bool.{true}
use mathlib.Core.List.{List, [], ◌++◌, map}
use lib.ListN.{length, take, drop, replicate, length-append, length-map}
use lib.Dec.{leb}
use lib.Seq.{take_at, length-take-le}
use borrow.Author.Tests.{lt-ltb, le-leb}
use Rattle.std.specs.Prelude.{Result, Err}
use Rattle.trace.specs.Trace.{Event, WORKSPACE_CELLS}
use Rattle.trace.specs.Outcome.{Reply, says, refused, Verdict, clean, race, Outcome, judge_outcome}
use Rattle.trace.specs.Answers.{judge_reply, judge_links}
use Rattle.trace.specs.Demands.{JudgeLinks}
use Rattle.trace.specs.declared.Verdict as code
use Rattle.trace.specs.declared.Refusal.{Refusal}
use Rattle.trace.proofs.Demand1.{judge_demand_1}
use Rattle.trace.proofs.Sizes.{refused_not_says}
use Rattle.trace.proofs.Tests.{by_test}
use Rattle.judge.specs.Entry.{judge_gives}
use Rattle.form.specs.Decided.{MAX_TEXT_EVENTS}
use Rattle.form.specs.Translation.{translation}
use Rattle.text.proofs.Stored.{Stored}
use Rattle.output.specs.Output.{output, Buffer, buffer, OUTPUT_BYTES, of_text, rendered}
use Rattle.form.proofs.TextForm.{translation_decided, decided_translation}
use Rattle.form.proofs.Accepted.{translation_at_most}
use Rattle.output.proofs.Rendered.{length_output}
use Rattle.answer.specs.Answer.{Counts, zeros, judged, judged_events, printed, text_answer, holding, answered, AnsweredBy, events_rendered, JudgedLinks, TextLinks}

-- ---- the judge's outcome, rendered, and the links beside it

module _ (kinds tasks operands : List ℕ) (r : Result code.Verdict Refusal) (ws first second : List ℕ) (e : judge_gives r ws first second
    ≡ judge_outcome kinds tasks operands (replicate (WORKSPACE_CELLS + MAX_TEXT_EVENTS) 0) (replicate MAX_TEXT_EVENTS 0) (replicate MAX_TEXT_EVENTS 0)) where
  pub render_judged : (out : List ℕ) (b : Buffer) → b ≡ rendered (judge_reply r) (length kinds) first second out → b ≡ events_rendered kinds tasks operands out
  unfolding events_rendered judged zeros judge_gives
  render_judged out b f = f ∙ rw (← e)

  pub links_judged : JudgeLinks kinds tasks operands (judge_reply r) (judge_links r) → JudgedLinks kinds tasks operands
  unfolding judged zeros judge_gives
  links_judged l = subst (λ (o : Outcome). JudgeLinks kinds tasks operands o.answer o.links) e l

pub render_refusal : (x : Refusal) (out : List ℕ) (b : Buffer) → b ≡ rendered (judge_reply (Err x)) 0 [] [] out
    → b ≡ rendered (refused x.number x.position) 0 [] [] out
unfolding judge_reply
render_refusal x out b e = e

-- ---- an answer about a text's trace fits the buffer

rendered_holding : (reply : Reply Verdict) (count : ℕ) (first second out : List ℕ) → of_text reply ≡ true
    → rendered reply count first second out ≡ holding (output reply count first second) out
unfolding rendered holding
rendered_holding reply count first second out e = by_test (leb OUTPUT_BYTES (length out)) (λ f. rw (e, f)) (λ f. rw (e, f))

of_text_law : (n : ℕ) → n ≤ MAX_TEXT_EVENTS → (reply : Reply Verdict) → ((s t : ℕ) → reply ≡ says (race s t) → (s < t) × (t < n)) → of_text reply ≡ true
of_text_law n h (says clean) k = refl
of_text_law n h (says (race s t)) k = let i = (k s t refl).1 in lt-ltb t MAX_TEXT_EVENTS (omega arith)
of_text_law n h (refused number position) k = refl

of_text_events : (es : List Event) → length es ≤ MAX_TEXT_EVENTS → of_text (judged_events es).answer ≡ true
unfolding judged_events judged
of_text_events es h =
    let k = length-map es (λ e. e.kind) in
    let demand = judge_demand_1 (map (λ e. e.kind) es) (map (λ e. e.task) es) (map (λ e. e.operand) es) (zeros (WORKSPACE_CELLS + MAX_TEXT_EVENTS)) (zeros MAX_TEXT_EVENTS) (zeros MAX_TEXT_EVENTS) in
    of_text_law (length (map (λ e. e.kind) es)) (omega arith) _ (λ s t e. demand.race_positions s t e)

-- ---- the rows of `answer`

accepted_answer : (text : List ℕ) (es : List Event) (out : List ℕ) → translation text ≡ says es
    → events_rendered (map (λ e. e.kind) es) (map (λ e. e.task) es) (map (λ e. e.operand) es) out ≡ answered text out
unfolding events_rendered answered text_answer printed judged_events
accepted_answer text es out e =
    let n = translation_at_most text es e in
    rw (e, length-map es (λ z. z.kind))
    (rendered_holding (judged_events es).answer (length es) (judged_events es).first (judged_events es).second out (of_text_events es n))

-- The events that `translate` stored are judged.
pub answer_events : {text kinds tasks operands : List ℕ} {count : ℕ} → Stored text kinds tasks operands count → (out : List ℕ) (a : Buffer)
    → a ≡ events_rendered (take count kinds) (take count tasks) (take count operands) out → a ≡ answered text out
answer_events {text} h out a e = e ∙ rw (h.kinds_are, h.tasks_are, h.operands_are) (accepted_answer text h.events out h.accepted)

pub answer_refusal : (text : List ℕ) {number position : ℕ} → translation text ≡ refused number position → (out : List ℕ) (a : Buffer)
    → a ≡ rendered (refused number position) 0 [] [] out → a ≡ answered text out
unfolding answered text_answer printed
answer_refusal text {number} {position} h out a e = e ∙ rw h (rendered_holding (refused number position) 0 [] [] out refl)

-- ---- how long the chains get

pub events_links : {text kinds tasks operands : List ℕ} {count : ℕ} → Stored text kinds tasks operands count
    → JudgedLinks (take count kinds) (take count tasks) (take count operands) → TextLinks text
events_links h l =
    record {
      of_events = λ es d.
          let same : h.events ≡ es = cc (h.accepted, decided_translation d) in
          rw (h.kinds_are, h.tasks_are, h.operands_are, same) at l;
    }

pub refusal_links : (text : List ℕ) {number position : ℕ} → translation text ≡ refused number position → TextLinks text
refusal_links text e = record { of_events = λ es d. absurd (refused_not_says e (decided_translation d)) }

-- ---- what the answer means

pub answered_decided : (text out : List ℕ) (b : Buffer) → b ≡ answered text out → AnsweredBy text out b
unfolding answered text_answer
answered_decided text out b e = record { reply = translation text; decided = translation_decided text; left = e }

-- A text decides one answer and no other.
pub answered_by_unique : {text out : List ℕ} {b₁ b₂ : Buffer} → AnsweredBy text out b₁ → AnsweredBy text out b₂ → b₁ ≡ b₂
answered_by_unique {text} {out} d₁ d₂ =
    d₁.left
    ∙ (ap (λ (z : Reply (List Event)). holding (printed z) out) (sym (decided_translation d₁.decided) ∙ decided_translation d₂.decided)
    ∙ sym d₂.left)

-- ---- the answer fits the buffer

length_printed : (text : List ℕ) (reply : Reply (List Event)) → translation text ≡ reply → length (printed reply) ≤ OUTPUT_BYTES
unfolding printed
length_printed text (says es) e =
    length_output (judged_events es).answer (length es) (judged_events es).first (judged_events es).second (of_text_events es (translation_at_most text es e))
length_printed text (refused number position) e = length_output (refused number position) 0 [] [] refl

length_answer : (text : List ℕ) → length (text_answer text) ≤ OUTPUT_BYTES
unfolding text_answer
length_answer text = length_printed text (translation text) refl

holding_fits : (bytes out : List ℕ) → length bytes ≤ OUTPUT_BYTES → (holding bytes out).used ≤ length (holding bytes out).bytes
unfolding holding
holding_fits bytes out h =
    by_test (leb OUTPUT_BYTES (length out)) (λ f. rw f (omega (arith, length-append bytes (drop (length bytes) out)))) (λ f. rw f (omega arith))

-- The result of `answer` counts bytes of the buffer.
pub answered_within : (text out after : List ℕ) (used : ℕ) → buffer after used ≡ answered text out → Counts used after
unfolding answered
answered_within text out after used e =
    let h : used ≤ length after = subst (λ (b : Buffer). b.used ≤ length b.bytes) (sym e) (holding_fits (text_answer text) out (length_answer text)) in
    (h, sym (length-take-le used after h))

-- In a buffer with room, the first bytes are the answer.
pub answered_output : (text out after : List ℕ) (used : ℕ) → length out ≡ OUTPUT_BYTES → buffer after used ≡ answered text out
    → take used after ≡ text_answer text
unfolding answered holding
answered_output text out after used room e =
    let test : leb OUTPUT_BYTES (length out) ≡ true = le-leb OUTPUT_BYTES (length out) (omega arith) in
    let held : buffer after used ≡ buffer (text_answer text ++ drop (length (text_answer text)) out) (length (text_answer text)) = rw test at e in
    subst (λ (b : Buffer). take b.used b.bytes ≡ text_answer text) (sym held) (take_at (text_answer text) _ _ refl)
