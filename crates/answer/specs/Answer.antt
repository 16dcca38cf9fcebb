-- THE PROGRAM'S ANSWER to a text (document 01, "The text form"), on the text's bytes alone: the text is translated whole, its events are judged, and
-- the answer is printed. Assumes nothing.
use Rattle.std.specs.Prelude.{ℕ, ◌+◌, ◌≤◌, ◌≡◌, cond, List, [], ◌++◌, map, leb, length, take, drop, replicate}
use Rattle.trace.specs.Trace.{Event, WORKSPACE_CELLS}
use Rattle.trace.specs.Outcome.{Reply, says, refused, Outcome, judge_outcome}
use Rattle.trace.specs.Demands.{JudgeLinks}
use Rattle.form.specs.Decided.{MAX_TEXT_EVENTS, Decided}
use Rattle.form.specs.Translation.{translation}
use Rattle.output.specs.Output.{output, Buffer, buffer, OUTPUT_BYTES, rendered}

-- Lent cells, all 0.
unfoldable pub zeros : ℕ → List ℕ
zeros n = replicate n 0

-- What the judge says of a trace, and leaves in two order buffers: with room for 2,048 events, the most that a text makes.
unfoldable pub judged : List ℕ → List ℕ → List ℕ → Outcome
judged kinds tasks operands =
    judge_outcome kinds tasks operands (zeros (WORKSPACE_CELLS + MAX_TEXT_EVENTS)) (zeros MAX_TEXT_EVENTS) (zeros MAX_TEXT_EVENTS)

-- The same of the events of a text: "Entry p of each makes event p."
unfoldable pub judged_events : List Event → Outcome
judged_events es = judged (map (λ e. e.kind) es) (map (λ e. e.task) es) (map (λ e. e.operand) es)

-- "Text is translated whole before it is judged": a refusal by 14 or 15 is printed, else what the judge says of the events.
unfoldable pub printed : Reply (List Event) → List ℕ
printed (refused number position) = output (refused number position) 0 [] []
printed (says es) = output (judged_events es).answer (length es) (judged_events es).first (judged_events es).second

-- THE ANSWER to a text: the bytes of the whole output.
unfoldable pub text_answer : List ℕ → List ℕ
text_answer text = printed (translation text)

-- ---- the lent buffer

-- A buffer that begins with these bytes, all of them; the bytes past them are as they were. A buffer of fewer than OUTPUT-BYTES bytes is left as it was.
unfoldable pub holding : List ℕ → List ℕ → Buffer
holding bytes out = cond (leb OUTPUT_BYTES (length out)) (buffer (bytes ++ drop (length bytes) out) (length bytes)) (buffer out 0)

-- THE BUFFER after the answer to a text.
unfoldable pub answered : List ℕ → List ℕ → Buffer
answered text out = holding (text_answer text) out

-- THE MEANING OF A BUFFER after the answer to a text: it holds what is printed of the events, or of the refusal, that the text decides.
pub record AnsweredBy (text out : List ℕ) (b : Buffer) : Type 0 where
  pub reply : Reply (List Event)
  pub decided : Decided text reply
  pub left : b ≡ holding (printed reply) out

-- THE BUFFER AFTER THE ANSWER TO WHAT WAS READ, the first `count` bytes of `read`: it is that of the text that ends with them; and where they fill `read`, it
-- is that of every text that begins with them, whatever follows.
pub record AnswersRead (read : List ℕ) (count : ℕ) (out after : List ℕ) (used : ℕ) : Type 0 where
  pub ends : buffer after used ≡ answered (take count read) out
  pub full : length read ≤ count → (rest : List ℕ) → buffer after used ≡ answered (take count read ++ rest) out

-- The buffer that the judge's outcome is rendered to.
unfoldable pub events_rendered : List ℕ → List ℕ → List ℕ → List ℕ → Buffer
events_rendered kinds tasks operands out =
    rendered (judged kinds tasks operands).answer (length kinds) (judged kinds tasks operands).first (judged kinds tasks operands).second out

-- n counts bytes at the start of a buffer. The second part follows from the first: a caller who lends the first n bytes asks for both.
abbrev pub Counts : ℕ → List ℕ → Type 0
Counts n bytes = (n ≤ length bytes) × (n ≡ length (take n bytes))

-- ---- how long the chains get (document 02, K2): "Every caller's promise carries that bound."

-- What the judge says of a trace's links; above all that no task has more than 10, after each number of events looked at.
abbrev pub JudgedLinks : List ℕ → List ℕ → List ℕ → Type 0
JudgedLinks kinds tasks operands = JudgeLinks kinds tasks operands (judged kinds tasks operands).answer (judged kinds tasks operands).links

-- The same of the events that a text decides. A text that is refused makes no trace.
pub record TextLinks (text : List ℕ) : Type 0 where
  pub of_events : (es : List Event) → Decided text (says es) → JudgedLinks (map (λ e. e.kind) es) (map (λ e. e.task) es) (map (λ e. e.operand) es)
