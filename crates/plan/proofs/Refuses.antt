-- WHERE A TEXT IS TURNED BACK (`stray_exactly`, `deep_exactly`): the position of row 17 is the first byte with which the text begins no plan, however deep, or
-- the text's length where it breaks off; that of row 18 is the letter with which it begins only plans that nest more than 64 deep. `says` has these two and the
-- plans together. Assumes nothing.
use Prim.Native.Nat.{ℕ, zero, suc, ◌+◌, ◌<◌, ◌≤◌}
use native.Mathlib.Nat.{suc-add}
use native.Mathlib.Omega.{arith}
use mathlib.Core.Path.{◌≡◌, refl, sym, ap, ◌∙◌}
use mathlib.Core.List.{List, [], ◌∷◌, ◌++◌, append_assoc, append-nil}
use mathlib.Core.Logic.{◌↔◌}
use mathlib.Core.Option.{Option, none, some}
use lib.ListN.{length, take, drop, get_or, length-append, take-append-drop}
use lib.Seq.{take_at, take-take, get_or_at}
use Rattle.std.specs.Prelude.{None}
use Rattle.trace.proofs.Tests.{either, lt_or_le}
use Rattle.numbers.specs.Decimal.{decimal}
use Rattle.numbers.specs.Reading.{digit, number}
use Rattle.numbers.proofs.Decimal.{first}
use Rattle.numbers.proofs.Tokens.{Each, each_some}
use Rattle.plan.specs.Plans.{Plan, leaf, pair, print, access_letter, operator_letter, LEVELS, IsPlan, Begins, StrayAt, DeepAt}
use Rattle.plan.specs.Reading.{letter_of, LAST_LOCATION, past, opening, stops, Reading, read, refused, plan_at, Whole, accepted, rejected, whole_of, whole}
use Rattle.plan.specs.declared.Access.TheVariants.{Read}
use Rattle.plan.specs.declared.Operator.{Operator}
use Rattle.plan.proofs.Spelling.{letter_access, letter_operator}
use Rattle.plan.proofs.Stops.{Right, plan_right, right_plan, leaf_right, pair_right, Ends, Lacks, Row, stray, deep, row_number}
use Rattle.plan.proofs.Stops.{Stop, no_letter, no_digit, no_level, no_bracket, in_left, no_comma, in_right, no_close}
use Rattle.plan.proofs.Stops.{Parts, Reads, printed, stopped, inner_eq, reads, plan_stops}
use Rattle.plan.proofs.Accepts.{ends_other, comma_no_digit, accepts, own_text}

-- ---- the bytes before a stop begin a plan

begins : {room : ℕ} {s : List ℕ} (p : Plan) (after : List ℕ) → Right room p → s ++ after ≡ print p → Begins room s
begins p after r e = record { plan = p; after = after; is_plan = right_plan r e }

-- The plan `r0`, with which an operand that is still wanted can be filled.
abbrev filler : Plan
filler = leaf Read 0

filler_right : (room : ℕ) → Right room filler
filler_right room = leaf_right room Read 0 (omega arith)

-- The end of a plan from the comma on.
abbrev second : Plan → List ℕ
second b = 44 ∷ (print b ++ (41 ∷ []))

begins_left : {room : ℕ} (o : Operator) (s : List ℕ) → Begins room s → Begins (suc room) (operator_letter o ∷ (40 ∷ s))
begins_left {room} o s i =
    begins (pair o i.plan filler) (i.after ++ second filler) (pair_right (plan_right i.is_plan) (filler_right room))
    (inner_eq o (rw (← i.is_plan.printed) (simp append_assoc)))

begins_right : {room : ℕ} (o : Operator) (a : Plan) (s : List ℕ) → Right room a → Begins room s
    → Begins (suc room) (operator_letter o ∷ (40 ∷ (print a ++ (44 ∷ s))))
begins_right o a s ra i =
    begins (pair o a i.plan) (i.after ++ (41 ∷ [])) (pair_right ra (plan_right i.is_plan))
    (inner_eq o (rw (← i.is_plan.printed) (simp append_assoc)))

-- An operator's letter alone.
begins_letter : (room : ℕ) (o : Operator) → Begins (suc room) (operator_letter o ∷ [])
begins_letter room o = begins (pair o filler filler) (40 ∷ (print filler ++ second filler)) (pair_right (filler_right room) (filler_right room)) refl

completes : {row : Row} {room : ℕ} {before : List ℕ} {h : Option ℕ} → Stop row room before h → Begins room before
completes {room = room} (no_letter l) = begins filler (print filler) (filler_right room) refl
completes {room = room} (no_digit k l) = begins (leaf k 0) (decimal 0) (leaf_right room k 0 (omega arith)) refl
completes (no_level o) = begins filler (print filler) (filler_right zero) refl
completes (no_bracket {room} o l) = begins_letter room o
completes (in_left o {before} s) = begins_left o before (completes s)
completes (no_comma {room} o a ra ea l) = begins (pair o a filler) (second filler) (pair_right ra (filler_right room)) refl
completes (in_right o a before ra s) = begins_right o a before ra (completes s)
completes (no_close o a b ra rb eb l) = begins (pair o a b) (41 ∷ []) (pair_right ra rb) (inner_eq o (simp append_assoc))

-- ---- more room

raise_right : {room : ℕ} {p : Plan} (more : ℕ) → room ≤ more → Right room p → Right more p
raise_right more h r = let l = r.low in record { in_range = r.in_range; low = omega arith }

-- Row 17 is a stop with any more room.
raise_stop : {room : ℕ} {before : List ℕ} {h : Option ℕ} (more : ℕ) → Stop stray room before h → Stop stray (room + more) before h
raise_stop more (no_letter l) = no_letter l
raise_stop more (no_digit k l) = no_digit k l
raise_stop more (no_bracket o l) = rw suc-add (no_bracket o l)
raise_stop more (in_left o s) = rw suc-add (in_left o (raise_stop more s))
raise_stop more (no_comma {room} o a ra ea l) = rw suc-add (no_comma o a (raise_right (room + more) (omega arith) ra) ea l)
raise_stop more (in_right {room = room} o a before ra s) =
    rw suc-add (in_right o a before (raise_right (room + more) (omega arith) ra) (raise_stop more s))
raise_stop more (no_close {room} o a b ra rb eb l) =
    rw suc-add (no_close o a b (raise_right (room + more) (omega arith) ra) (raise_right (room + more) (omega arith) rb) eb l)

-- With its letter the bytes before a stop by row 18 begin a plan of one level more.
deepens : {room : ℕ} {before : List ℕ} {b : ℕ} → Stop deep room before (some b) → Begins (suc room) (before ++ (b ∷ []))
deepens (no_level o) = begins_letter zero o
deepens {b = b} (in_left o {before} s) = begins_left o (before ++ (b ∷ [])) (deepens s)
deepens {b = b} (in_right {room = room} o a before ra s) =
    rw append_assoc (begins_right o a (before ++ (b ∷ [])) (raise_right (suc room) (omega arith) ra) (deepens s))

deep_letter : {room : ℕ} {before : List ℕ} {h : Option ℕ} → Stop deep room before h → (o : Operator) × (h ≡ some (operator_letter o))
deep_letter (no_level o) = (o, refl)
deep_letter (in_left o s) = deep_letter s
deep_letter (in_right o a before ra s) = deep_letter s

-- ---- a stop is a stop whatever follows

past_none : (w : ℕ) (s : List ℕ) → Lacks w (first s) → past w s ≡ none
past_none w [] l = refl
past_none w (b ∷ s) l = rw (each_some l)

number_none : (s : List ℕ) → Each (λ b. digit b ≡ none) (first s) → number LAST_LOCATION s ≡ none
number_none [] l = refl
number_none (b ∷ s) l = rw (each_some l)

letter_none : (room at : ℕ) (s : List ℕ) → Each (λ b. letter_of b ≡ None) (first s) → stops 17 at ≡ opening room at s
letter_none room at [] l = refl
letter_none room at (b ∷ s) l = rw (each_some l)

level_none : (at : ℕ) (o : Operator) (s : List ℕ) → first s ≡ some (operator_letter o) → stops 18 at ≡ opening zero at s
level_none at o [] e = let z : ◌≡◌ {A = ℕ} 0 1 = cc in absurd (omega arith)
level_none at o (b ∷ s) e = let i : b ≡ operator_letter o = cc in rw (i, letter_operator o)

refuses : {row : Row} {room : ℕ} {before : List ℕ} {h : Option ℕ} → Stop row room before h → (at : ℕ) (rest : List ℕ) → h ≡ first rest
    → (position : ℕ) × (plan_at room at (before ++ rest) ≡ refused (row_number row) position)
refuses {room = room} (no_letter l) at rest e = (at, plan_stops room at rest 17 at (letter_none room at rest (rw e at l)))
refuses {room = room} (no_digit k l) at rest e =
    let n = number_none rest (rw e at l) in
    (at + 1, plan_stops room at (access_letter k ∷ rest) 17 (at + 1) (rw (letter_access k, n)))
refuses (no_level o) at rest e = (at, plan_stops zero at rest 18 at (level_none at o rest (sym e)))
refuses (no_bracket {room} o l) at rest e =
    let n = past_none 40 rest (rw e at l) in
    (at + 1, plan_stops (suc room) at (operator_letter o ∷ rest) 17 (at + 1) (rw (letter_operator o, n)))
refuses (in_left o s) at rest e = let i = refuses s (at + 2) rest e in (i.0, rw (letter_operator o, i.1))
refuses (no_comma {room} o a ra ea l) at rest e =
    let i = accepts a room (at + 2) rest ra (rw e at ea) in
    let n = past_none 44 rest (rw e at l) in
    (i.0, rw (letter_operator o, i.1, n))
refuses (in_right {room = room} o a before ra s) at rest e =
    let i = accepts a room (at + 2) (44 ∷ (before ++ rest)) ra (ends_other a 44 comma_no_digit) in
    let j = refuses s (i.0 + 1) rest e in
    (j.0, rw (letter_operator o, append_assoc, i.1, j.1))
refuses (no_close {room} o a b ra rb eb l) at rest e =
    let i = accepts a room (at + 2) (44 ∷ (print b ++ rest)) ra (ends_other a 44 comma_no_digit) in
    let j = accepts b room (i.0 + 1) rest rb (rw e at eb) in
    let n = past_none 41 rest (rw e at l) in
    (j.0, rw (letter_operator o, append_assoc, i.1, j.1, n))

-- ---- no plan goes on past a stop

never_read : {row : Row} {room : ℕ} {before : List ℕ} {h : Option ℕ} → Stop row room before h → (rest : List ℕ) → h ≡ first rest
    → (p : Plan) → Right room p → before ++ rest ≡ print p → ⊥
never_read {room = room} s rest e p r f =
    let a = (own_text room p r).1 in
    let i = rw f at (refuses s 0 rest e).1 in
    let z : ◌≡◌ {A = ℕ} 0 1 = cc in
    omega arith

goes_on : {levels : ℕ} (before : List ℕ) (b : ℕ) (i : Begins levels (before ++ (b ∷ []))) → before ++ (b ∷ i.after) ≡ print i.plan
goes_on before b i = rw append_assoc at i.is_plan.printed

deep_here : {room : ℕ} {before : List ℕ} {b : ℕ} → Stop deep room before (some b) → Begins room (before ++ (b ∷ [])) → ⊥
deep_here {before = before} {b} s i = never_read s (b ∷ i.after) refl i.plan (plan_right i.is_plan) (goes_on before b i)

stray_here : {room : ℕ} {before : List ℕ} {b : ℕ} → Stop stray room before (some b) → (levels : ℕ) → Begins levels (before ++ (b ∷ [])) → ⊥
stray_here {room} {before} {b} s levels i =
    never_read (raise_stop levels s) (b ∷ i.after) refl i.plan (raise_right (room + levels) (omega arith) (plan_right i.is_plan))
    (goes_on before b i)

stray_last : {room : ℕ} {before : List ℕ} → Stop stray room before none → (levels : ℕ) (p : Plan) → IsPlan levels before p → ⊥
stray_last {room} {before} s levels p i =
    never_read (raise_stop levels s) [] refl p (raise_right (room + levels) (omega arith) (plan_right i)) (append-nil before ∙ i.printed)

-- Nor past a whole plan.
trailing : {room : ℕ} (p : Plan) (b : ℕ) → Right room p → Ends p (some b) → (levels : ℕ) → Begins levels (print p ++ (b ∷ [])) → ⊥
trailing {room} p b r u levels i =
    let a = (own_text (room + levels) i.plan (raise_right (room + levels) (omega arith) (plan_right i.is_plan))).1 in
    let c = rw (goes_on (print p) b i) at (accepts p (room + levels) 0 (b ∷ i.after) (raise_right (room + levels) (omega arith) r) u).1 in
    let z : ◌≡◌ {A = ℕ} 0 1 = cc in
    omega arith

-- ---- from the parts of a text to its positions

take_before : {text before rest : List ℕ} {position : ℕ} → Parts 0 text before position rest → take position text ≡ before
take_before {before = before} {rest} {position} i =
    let n = simp length-append at (ap length i.bytes) in
    let k = i.place in
    rw i.bytes (take_at before rest position (omega arith))

module _ {text before s : List ℕ} {b position : ℕ} (i : Parts 0 text before position (b ∷ s)) where
  below : position < length text
  below = let k = i.place in omega arith

  take_here : take (position + 1) text ≡ before ++ (b ∷ [])
  take_here = let k = i.place in take_before {rest = s} {position = position + 1} (record { bytes = i.bytes ∙ simp append_assoc; place = omega arith })

  byte_here : get_or text position 0 ≡ b
  byte_here =
      let n = simp length-append at (ap length i.bytes) in
      let k = i.place in
      rw i.bytes (get_or_at before b s 0 position (omega arith))

  stray_byte : Begins LEVELS before → ((levels : ℕ) → Begins levels (before ++ (b ∷ [])) → ⊥) → StrayAt text position
  stray_byte starts ends =
      let l = below in
      record {
        within = omega arith;
        before = rw (take_before i) starts;
        here = λ levels l z. ends levels (rw take_here at z);
        at_the_end = λ levels p l. absurd (omega arith);
      }

stray_at_law : (text before rest : List ℕ) (position : ℕ) → Parts 0 text before position rest → Stop stray LEVELS before (first rest) → StrayAt text position
stray_at_law text before [] position i s =
    let k = i.place in
    record {
      within = omega arith;
      before = rw (take_before i) (completes s);
      here = λ levels l. absurd (omega arith);
      at_the_end = λ levels p l j. stray_last s levels p (rw (append-nil before) at (rw i.bytes at j));
    }
stray_at_law text before (b ∷ t) position i s = stray_byte i (completes s) (stray_here s)

deep_at : (text before rest : List ℕ) (position : ℕ) → Parts 0 text before position rest → Stop deep LEVELS before (first rest) → DeepAt text position
deep_at text before [] position i s = let o = (deep_letter s).1 in let z : ◌≡◌ {A = ℕ} 0 1 = cc in absurd (omega arith)
deep_at text before (b ∷ t) position i s =
    let o = deep_letter s in
    let e : b ≡ operator_letter o.0 = cc o.1 in
    record {
      within = below i;
      letter = (o.0, byte_here i ∙ e);
      before = rw (take_before i) (completes s);
      deeper = rw (take_here i) (deepens s);
      here = λ z. deep_here s (rw (take_here i) at z);
    }

-- ---- what a whole text comes to

pub data Says (text : List ℕ) : Whole → Type 0 where
  says_plan : {p : Plan} → IsPlan LEVELS text p → Says text (accepted p)
  says_stray : {position : ℕ} → StrayAt text position → Says text (rejected 17 position)
  says_deep : {position : ℕ} → DeepAt text position → Says text (rejected 18 position)

whole_says : (text : List ℕ) (x : Reading) → Reads LEVELS 0 text x → Says text (whole_of x)
whole_says text (read p end []) (printed p' e' r' r u i) = says_plan (right_plan r (i.bytes ∙ append-nil (print p)))
whole_says text (read p end (b ∷ s)) (printed p' e' r' r u i) =
    says_stray (stray_byte i (begins p [] r (append-nil (print p))) (trailing p b r u))
whole_says text (refused n position) (stopped stray pos before rest s i) = says_stray (stray_at_law text before rest position i s)
whole_says text (refused n position) (stopped deep pos before rest s i) = says_deep (deep_at text before rest position i s)

pub says : (text : List ℕ) → Says text (whole text)
unfolding whole
says text = whole_says text (plan_at LEVELS 0 text) (reads LEVELS 0 text)

-- ---- and nothing else: each position is the only one

begins_shorter : {levels : ℕ} (text : List ℕ) (m n : ℕ) → n ≤ m → Begins levels (take m text) → Begins levels (take n text)
begins_shorter text m n h i =
    let e : take n text ++ drop n (take m text) ≡ take m text = rw (← take-take n m text h) (take-append-drop n (take m text)) in
    begins i.plan (drop n (take m text) ++ i.after) (plan_right i.is_plan) (rw (← append_assoc, e) i.is_plan.printed)

begins_whole : {levels : ℕ} {p : Plan} (text : List ℕ) (n : ℕ) → IsPlan levels text p → Begins levels (take n text)
begins_whole {p = p} text n i = begins p (drop n text) (plan_right i) (take-append-drop n text ∙ i.printed)

module _ {text : List ℕ} {position : ℕ} where
  -- No plan goes past the position of row 17,
  stray_bounds : StrayAt text position → (levels n : ℕ) → n ≤ length text → Begins levels (take n text) → n ≤ position
  stray_bounds s levels n h i =
      either (lt_or_le position n) (λ l. absurd (s.here levels (omega arith) (begins_shorter text n (position + 1) (omega arith) i))) (λ l. l)

  -- and none that is 64 deep past that of row 18.
  deep_bounds : DeepAt text position → (n : ℕ) → Begins LEVELS (take n text) → n ≤ position
  deep_bounds s n i =
      either (lt_or_le position n) (λ l. absurd (s.here (begins_shorter text n (position + 1) (omega arith) i))) (λ l. l)

not_both : {text : List ℕ} {p q : ℕ} → StrayAt text p → DeepAt text q → ⊥
not_both {p = p} {q} s d =
    let h = d.within in
    let k = stray_bounds s (suc LEVELS) (q + 1) (omega arith) d.deeper in
    let l = deep_bounds d p s.before in
    omega arith

stray_only : {text : List ℕ} {position : ℕ} (w : Whole) → Says text w → StrayAt text position → w ≡ rejected 17 position
stray_only {text} (accepted p) (says_plan i) s =
    absurd (s.at_the_end LEVELS p (stray_bounds s LEVELS (length text) (omega arith) (begins_whole text (length text) i)) i)
stray_only {position = position} (rejected n q) (says_stray r) s =
    let h = stray_bounds s LEVELS q r.within r.before in
    let k = stray_bounds r LEVELS position s.within s.before in
    let e : q ≡ position = omega arith in
    rw e
stray_only (rejected n q) (says_deep r) s = absurd (not_both s r)

deep_only : {text : List ℕ} {position : ℕ} (w : Whole) → Says text w → DeepAt text position → w ≡ rejected 18 position
deep_only {text} {position} (accepted p) (says_plan i) s =
    let h = deep_bounds s (position + 1) (begins_whole text (position + 1) i) in absurd (omega arith)
deep_only (rejected n q) (says_stray r) s = absurd (not_both r s)
deep_only {position = position} (rejected n q) (says_deep r) s =
    let h = deep_bounds s q r.before in
    let k = deep_bounds r position s.before in
    let e : q ≡ position = omega arith in
    rw e

stray_of : {text : List ℕ} {position : ℕ} → Says text (rejected 17 position) → StrayAt text position
stray_of (says_stray s) = s

deep_of : {text : List ℕ} {position : ℕ} → Says text (rejected 18 position) → DeepAt text position
deep_of (says_deep s) = s

pub stray_exactly : (text : List ℕ) (position : ℕ) → (whole text ≡ rejected 17 position) ↔ StrayAt text position
stray_exactly text position = (λ e. stray_of (rw e at (says text)), λ s. stray_only (whole text) (says text) s)

pub deep_exactly : (text : List ℕ) (position : ℕ) → (whole text ≡ rejected 18 position) ↔ DeepAt text position
deep_exactly text position = (λ e. deep_of (rw e at (says text)), λ s. deep_only (whole text) (says text) s)
