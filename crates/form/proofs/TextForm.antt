-- THE TEXT FORM: what the reader finds in a text is what the text decides. `parse_lines` and `parse_no_line` say what is read of every text of the form,
-- and of every text that leaves it; `parse_reads` that there is no other text. `translated_decided` says so of the outcome, and carries the clause *form*
-- of `translate`; by `decided_by_unique` a text decides one outcome and no other. `translation_of_form` says that no text of the form is refused by 14.
-- Assumes nothing.
use Prim.Native.Nat.{ℕ, zero, suc, ◌+◌, ◌≤◌, ◌<◌}
use native.Mathlib.Omega.{arith}
use mathlib.Core.Path.{◌≡◌, refl, sym, ap, ◌∙◌}
use mathlib.Core.List.{List, [], ◌∷◌, ◌++◌, append_assoc}
use mathlib.Core.Option.{none, some}
use lib.Dec.{ltb}
use lib.ListN.{length, length-append}
use borrow.Author.Tests.{ltb-true, ltb-false, lt-ltb, le-ltb}
use Rattle.trace.specs.Trace.{Event}
use Rattle.trace.specs.Outcome.{Reply, says, refused}
use Rattle.trace.specs.Slices.{Slices, Translated, leaving}
use Rattle.trace.proofs.Tests.{by_test}
use Rattle.form.specs.Form.{print, print_all, InRange, AllInRange, no_line, one_more, LinesBefore, OfForm, BeginsWithNoLine}
use Rattle.form.specs.Events.{events_of, stack_after, events_of_all}
use Rattle.form.specs.Decided.{MAX_TEXT_EVENTS, Decided, accepted, not_of_form, too_many, DecidedBy}
use Rattle.form.specs.Reading.{line, Parsed, ends, malformed, line_then, parse}
use Rattle.form.specs.Translation.{events_from, FIRST_LINE, translation, translated}
use Rattle.form.specs.declared.Line.{Line}
use Rattle.numbers.proofs.Tokens.{by_token}
use Rattle.form.proofs.Lines.{line_print, line_printed}
use Rattle.form.proofs.Parsing.{length_after_line, parse_nil, parse_none, parse_line}

-- These lines, then what is read after them.
abbrev pub lines_then : List Line → Parsed → Parsed
lines_then [] rest = rest
lines_then (l ∷ lines) rest = line_then l (lines_then lines rest)

-- ---- what is read of printed lines

pub parse_lines : {lines : List Line} → AllInRange lines → (rest : List ℕ) → parse (print_all lines ++ rest) ≡ lines_then lines (parse rest)
parse_lines no_line rest = refl
parse_lines (one_more {l} {lines} r rs) rest =
    rw (
      append_assoc,
      parse_line (print l ++ (print_all lines ++ rest)) l (print_all lines ++ rest) (line_print l (print_all lines ++ rest) r),
      parse_lines rs rest,
    )

pub parse_no_line : (rest : List ℕ) → BeginsWithNoLine rest → parse rest ≡ malformed
parse_no_line rest b =
    by_token (line rest) (λ e. parse_none rest b.some_left e)
    (λ l e. let p = line_printed rest l.0 l.1 e in absurd (b.no_line l.0 l.1 p.in_range p.bytes))

-- ---- what is read was printed

-- What the reader says of a text: the lines that it is the print of; or those that it begins with, before bytes that begin with no line.
pub data Reads (text : List ℕ) : Parsed → Type 0 where
  whole : (all : OfForm text) → Reads text (lines_then all.lines ends)
  broken : (rest : List ℕ) (before : LinesBefore text rest) → BeginsWithNoLine rest → Reads text (lines_then before.lines malformed)

begins_with_no_line : (s : List ℕ) → (s ≡ [] → ⊥) → line s ≡ none → BeginsWithNoLine s
begins_with_no_line s h e =
    record {
      some_left = h;
      no_line =
          λ l after r p.
          let q : line s ≡ some (l, after) = ap line p ∙ line_print l after r in
          let z : ◌≡◌ {A = ℕ} 0 1 = cc in
          omega arith;
    }

-- Nothing stands before a text.
abbrev none_before : (text : List ℕ) → LinesBefore text text
none_before text = record { lines = []; in_range = no_line; printed = refl }

-- One more line stands before the others.
abbrev line_before : (l : Line) → InRange l → {s rest : List ℕ} → LinesBefore s rest → LinesBefore (print l ++ s) rest
line_before l r {s} {rest} before =
    record {
      lines = l ∷ before.lines;
      in_range = one_more r before.in_range;
      printed = rw before.printed (sym (append_assoc (print l) (print_all before.lines) rest));
    }

reads_line : (l : Line) → InRange l → {s : List ℕ} {p : Parsed} → Reads s p → Reads (print l ++ s) (line_then l p)
reads_line l r (whole all) = whole (line_before l r all)
reads_line l r (broken rest before b) = broken rest (line_before l r before) b

reads_within : (n : ℕ) (s : List ℕ) → length s < n → Reads s (parse s)
reads_within zero s h = absurd (omega arith)
reads_within (suc n) [] h = rw parse_nil (whole (none_before []))
reads_within (suc n) (b ∷ s) h =
    let some_left : b ∷ s ≡ [] → ⊥ = λ e. let z : ◌≡◌ {A = ℕ} 0 1 = cc in omega arith in
    by_token (line (b ∷ s))
    (λ e. rw (parse_none (b ∷ s) some_left e) (broken (b ∷ s) (none_before (b ∷ s)) (begins_with_no_line (b ∷ s) some_left e)))
    (λ l e. let p = line_printed (b ∷ s) l.0 l.1 e in
    let i = length_after_line (b ∷ s) l.0 l.1 e in
    rw (parse_line (b ∷ s) l.0 l.1 e, p.bytes)
    (reads_line l.0 p.in_range (reads_within n l.1 (omega arith))))

pub parse_reads : (text : List ℕ) → Reads text (parse text)
parse_reads text = reads_within (suc (length text)) text (omega arith)

-- ---- how many events lines make

-- Lines after `count` events: all their events fit; or they begin with lines whose events fit, and a line with which they do not.
data Counted (count : ℕ) (stack : List ℕ) (lines : List Line) : Type 0 where
  fit : count + length (events_of_all stack lines) ≤ MAX_TEXT_EVENTS → Counted count stack lines
  pass : (l : Line) → InRange l → (rest : List ℕ) (before : LinesBefore (print_all lines) (print l ++ rest))
      → count + length (events_of_all stack before.lines) ≤ MAX_TEXT_EVENTS
      → MAX_TEXT_EVENTS < count + length (events_of_all stack (before.lines ++ (l ∷ [])))
      → Counted count stack lines

counted_line : {count : ℕ} {stack : List ℕ} {lines : List Line} (l : Line) → InRange l
    → Counted (count + length (events_of stack l)) (stack_after stack l) lines → Counted count stack (l ∷ lines)
counted_line l r (fit h) = fit (simp length-append (omega arith))
counted_line l r (pass m q rest before h k) =
    pass m q rest (line_before l r before) (simp length-append (omega arith)) (simp length-append (omega arith))

counted : {lines : List Line} → AllInRange lines → (count : ℕ) (stack : List ℕ) → count ≤ MAX_TEXT_EVENTS → Counted count stack lines
counted no_line count stack h = fit (omega arith)
counted (one_more {l} {lines} r rs) count stack h =
    by_test (ltb MAX_TEXT_EVENTS (count + length (events_of stack l)))
    (λ e. let k = ltb-true MAX_TEXT_EVENTS (count + length (events_of stack l)) e in
    pass l r (print_all lines) (none_before (print l ++ print_all lines)) (omega arith) (simp length-append (omega arith)))
    (λ e. counted_line l r
    (counted rs (count + length (events_of stack l)) (stack_after stack l) (ltb-false MAX_TEXT_EVENTS (count + length (events_of stack l)) e)))

-- ---- the answers

-- The answer to lines whose events fit, at the end of the text and at bytes that begin with no line.
fit_ends : (lines : List Line) (number count : ℕ) (stack : List ℕ) → count + length (events_of_all stack lines) ≤ MAX_TEXT_EVENTS
    → events_from number count stack (lines_then lines ends) ≡ says (events_of_all stack lines)
fit_ends [] number count stack h = refl
fit_ends (l ∷ lines) number count stack h =
    let k = simp length-append at h in
    rw (
      le-ltb MAX_TEXT_EVENTS (count + length (events_of stack l)) (omega arith),
      fit_ends lines (suc number) (count + length (events_of stack l)) (stack_after stack l) (omega arith),
    )

fit_malformed : (lines : List Line) (number count : ℕ) (stack : List ℕ) → count + length (events_of_all stack lines) ≤ MAX_TEXT_EVENTS
    → events_from number count stack (lines_then lines malformed) ≡ refused 14 (number + length lines)
fit_malformed [] number count stack h = let e : number + 0 ≡ number = omega arith in rw e
fit_malformed (l ∷ lines) number count stack h =
    let k = simp length-append at h in
    let f : number + suc (length lines) ≡ suc number + length lines = omega arith in
    rw (
      le-ltb MAX_TEXT_EVENTS (count + length (events_of stack l)) (omega arith),
      fit_malformed lines (suc number) (count + length (events_of stack l)) (stack_after stack l) (omega arith),
      f,
    )

-- The answer to lines whose events fit, and a line with which they do not, whatever comes after it.
pass_line : (lines : List Line) (l : Line) (p : Parsed) (number count : ℕ) (stack : List ℕ)
    → count + length (events_of_all stack lines) ≤ MAX_TEXT_EVENTS
    → MAX_TEXT_EVENTS < count + length (events_of_all stack (lines ++ (l ∷ [])))
    → events_from number count stack (lines_then lines (line_then l p)) ≡ refused 15 (number + length lines)
pass_line [] l p number count stack h k =
    let m = simp length-append at k in
    let e : number + 0 ≡ number = omega arith in
    rw (lt-ltb MAX_TEXT_EVENTS (count + length (events_of stack l)) (omega arith), e)
pass_line (x ∷ lines) l p number count stack h k =
    let i = simp length-append at h in
    let m = simp length-append at k in
    let f : number + suc (length lines) ≡ suc number + length lines = omega arith in
    rw (
      le-ltb MAX_TEXT_EVENTS (count + length (events_of stack x)) (omega arith),
      pass_line lines l p (suc number) (count + length (events_of stack x)) (stack_after stack x) (omega arith) (omega arith),
      f,
    )

-- Each case gives the translation. So the cases exclude each other, and no text has one of them at two lines.
pub decided_translation : {text : List ℕ} {reply : Reply (List Event)} → Decided text reply → translation text ≡ reply
unfolding translation
decided_translation (accepted all h) =
    rw (all.printed, parse_lines all.in_range [], parse_nil) (fit_ends all.lines FIRST_LINE 0 (0 ∷ []) (omega arith))
decided_translation (not_of_form rest before h b) =
    let z : FIRST_LINE + length before.lines ≡ length before.lines = omega arith in
    rw (before.printed, parse_lines before.in_range rest, parse_no_line rest b)
    (rw z at (fit_malformed before.lines FIRST_LINE 0 (0 ∷ []) (omega arith)))
decided_translation (too_many l rest before h r k) =
    let z : FIRST_LINE + length before.lines ≡ length before.lines = omega arith in
    rw (before.printed, parse_lines before.in_range (print l ++ rest), parse_line (print l ++ rest) l rest (line_print l rest r))
    (rw z at (pass_line before.lines l (parse rest) FIRST_LINE 0 (0 ∷ []) (omega arith) (omega arith)))

-- The lines before one of the lines that a text begins with.
abbrev before_line : {text more : List ℕ} (before : LinesBefore text more) (l : Line) (rest : List ℕ)
    → LinesBefore (print_all before.lines) (print l ++ rest) → LinesBefore text (print l ++ (rest ++ more))
before_line before l rest first =
    record {
      lines = first.lines;
      in_range = first.in_range;
      printed = before.printed ∙ rw first.printed (simp append_assoc refl);
    }

-- Every text has one of the cases.
pub translation_decided : (text : List ℕ) → Decided text (translation text)
translation_decided text = from_reads (parse_reads text)
  where
    from : {reply : Reply (List Event)} → Decided text reply → Decided text (translation text)
    from d = rw (decided_translation d) d

    over : {more : List ℕ} (before : LinesBefore text more) → Counted 0 (0 ∷ []) before.lines
        → (length (events_of_all (0 ∷ []) before.lines) ≤ MAX_TEXT_EVENTS → Decided text (translation text)) → Decided text (translation text)
    over before (fit h) next = next (omega arith)
    over {more} before (pass l r rest first h k) next =
        from (too_many l (rest ++ more) (before_line before l rest first) (omega arith) r (omega arith))

    from_reads : {p : Parsed} → Reads text p → Decided text (translation text)
    from_reads (whole all) = over all (counted all.in_range 0 (0 ∷ []) (omega arith)) (λ h. from (accepted all h))
    from_reads (broken rest before b) =
        over before (counted before.in_range 0 (0 ∷ []) (omega arith)) (λ h. from (not_of_form rest before h b))

-- A text decides one outcome, which the translation gives,
pub translated_decided : (text : List ℕ) (b : Slices) → DecidedBy text b (translated text b)
unfolding translated
translated_decided text b = record { reply = translation text; decided = translation_decided text; left = refl }

-- and no other.
pub decided_by_unique : {text : List ℕ} {b : Slices} {o₁ o₂ : Translated} → DecidedBy text b o₁ → DecidedBy text b o₂ → o₁ ≡ o₂
decided_by_unique {text} {b} d₁ d₂ =
    d₁.left ∙ (ap (leaving b) (sym (decided_translation d₁.decided) ∙ decided_translation d₂.decided) ∙ sym d₂.left)

-- Events, or refused 15: an answer to lines that are all of the form.
pub data FormedAnswer : Reply (List Event) → Type 0 where
  events : {es : List Event} → FormedAnswer (says es)
  over_limit : {number : ℕ} → FormedAnswer (refused 15 number)

pub translation_of_form : (text : List ℕ) → OfForm text → FormedAnswer (translation text)
translation_of_form text all = from_count (counted all.in_range 0 (0 ∷ []) (omega arith))
  where
    from : {reply : Reply (List Event)} → Decided text reply → FormedAnswer reply → FormedAnswer (translation text)
    from d a = rw (decided_translation d) a

    from_count : Counted 0 (0 ∷ []) all.lines → FormedAnswer (translation text)
    from_count (fit h) = from (accepted all (omega arith)) events
    from_count (pass l r rest first h k) =
        from (too_many l (rest ++ []) (before_line all l rest first) (omega arith) r (omega arith)) over_limit
