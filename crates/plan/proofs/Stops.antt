-- What the reader makes of a list of bytes (`reads`): a plan that was printed, or a place where it stops (`Stop`), told by the bytes before it and the byte
-- there; and how it goes on from what a plan begins with (`plan_stops`, `plan_lone`). Assumes nothing.
use Prim.Native.Nat.{ℕ, zero, suc, ◌+◌, ◌-◌, ◌≤◌}
use native.Mathlib.Omega.{arith}
use mathlib.Core.Path.{◌≡◌, refl, ap, ◌∙◌}
use mathlib.Core.Bool.{false}
use mathlib.Core.List.{List, [], ◌∷◌, ◌++◌, append_assoc}
use mathlib.Core.Option.{Option, none, some}
use lib.Dec.{eqb}
use lib.ListN.{length, length-append}
use borrow.Author.Tests.{eqb-true}
use Rattle.std.specs.Prelude.{Some, None}
use Rattle.std.specs.Prelude as code
use Rattle.trace.proofs.Tests.{by_test}
use Rattle.numbers.specs.Options.{maybe}
use Rattle.numbers.specs.Reading.{digit, number}
use Rattle.numbers.proofs.Decimal.{first, Unextended, no_number, number_printed}
use Rattle.numbers.proofs.Tokens.{by_token, Each, nothing, found, each_some}
use Rattle.plan.specs.Plans.{Plan, leaf, pair, access_letter, operator_letter, print, InRange, depth, IsPlan}
use Rattle.plan.specs.Reading.{letter_of, LAST_LOCATION, past, Opened, stops, lone, inside, begun, opening, Reading, read, refused}
use Rattle.plan.specs.Reading.{◌followed◌, resumed, closing, operands, plan_at}
use Rattle.plan.specs.declared.Access.{Access}
use Rattle.plan.specs.declared.Operator.{Operator}
use Rattle.plan.specs.declared.Letter.{Letter}
use Rattle.plan.specs.declared.Letter.TheVariants.{Leaf, Joint}
use Rattle.plan.proofs.Spelling.{Spelt, of_access, of_operator, of_none, spelt}

-- A plan of the grammar that nests at most `room` deep.
pub record Right (room : ℕ) (p : Plan) : Type 0 where
  pub in_range : InRange p
  pub low : depth p ≤ room

pub plan_right : {room : ℕ} {text : List ℕ} {p : Plan} → IsPlan room text p → Right room p
plan_right i = record { in_range = i.in_range; low = i.low }

pub right_plan : {room : ℕ} {text : List ℕ} {p : Plan} → Right room p → text ≡ print p → IsPlan room text p
right_plan r e = record { in_range = r.in_range; low = r.low; printed = e }

pub leaf_right : (room : ℕ) (k : Access) (v : ℕ) → v ≤ LAST_LOCATION → Right room (leaf k v)
leaf_right room k v h = record { in_range = omega arith; low = omega arith }

pub pair_right : {room : ℕ} {o : Operator} {a b : Plan} → Right room a → Right room b → Right (suc room) (pair o a b)
pair_right l r = record { in_range = (l.in_range, r.in_range); low = omega arith }

-- The byte that comes next, if any, does not go on with the plan's last location.
pub data Ends : Plan → Option ℕ → Type 0 where
  leaf_ends : {k : Access} {v : ℕ} {h : Option ℕ} → Unextended LAST_LOCATION v h → Ends (leaf k v) h
  pair_ends : {o : Operator} {a b : Plan} {h : Option ℕ} → Ends (pair o a b) h

-- The byte that comes next, if any, is not w.
abbrev pub Lacks : ℕ → Option ℕ → Type 0
Lacks w h = Each (λ b. eqb b w ≡ false) h

-- Rows 17 and 18.
pub data Row : Type 0 where
  stray : Row
  deep : Row

abbrev pub row_number : Row → ℕ
row_number stray = 17
row_number deep = 18

-- With `room` levels left, the reader takes the bytes `before` and stops at the next byte, or at the end if there is none.
pub data Stop : Row → ℕ → List ℕ → Option ℕ → Type 0 where
  no_letter : {room : ℕ} {h : Option ℕ} → Each (λ b. letter_of b ≡ None) h → Stop stray room [] h
  no_digit : {room : ℕ} (k : Access) {h : Option ℕ} → Each (λ b. digit b ≡ none) h → Stop stray room (access_letter k ∷ []) h
  no_level : (o : Operator) → Stop deep zero [] (some (operator_letter o))
  no_bracket : {room : ℕ} (o : Operator) {h : Option ℕ} → Lacks 40 h → Stop stray (suc room) (operator_letter o ∷ []) h
  in_left : {row : Row} {room : ℕ} (o : Operator) {before : List ℕ} {h : Option ℕ}
      → Stop row room before h → Stop row (suc room) (operator_letter o ∷ (40 ∷ before)) h
  no_comma : {room : ℕ} (o : Operator) (a : Plan) {h : Option ℕ}
      → Right room a → Ends a h → Lacks 44 h → Stop stray (suc room) (operator_letter o ∷ (40 ∷ print a)) h
  in_right : {row : Row} {room : ℕ} (o : Operator) (a : Plan) (before : List ℕ) {h : Option ℕ}
      → Right room a → Stop row room before h → Stop row (suc room) (operator_letter o ∷ (40 ∷ (print a ++ (44 ∷ before)))) h
  no_close : {room : ℕ} (o : Operator) (a b : Plan) {h : Option ℕ}
      → Right room a → Right room b → Ends b h → Lacks 41 h
      → Stop stray (suc room) (operator_letter o ∷ (40 ∷ (print a ++ (44 ∷ print b)))) h

-- The bytes s, whose first has the position `at`, are `before` and then `rest`, whose first has the position `end`.
pub record Parts (at : ℕ) (s before : List ℕ) (end : ℕ) (rest : List ℕ) : Type 0 where
  pub bytes : s ≡ before ++ rest
  pub place : end + length rest ≡ at + length s

-- What a reading says of the bytes.
pub data Reads (room at : ℕ) (s : List ℕ) : Reading → Type 0 where
  printed : (p : Plan) (end : ℕ) (rest : List ℕ) → Right room p → Ends p (first rest) → Parts at s (print p) end rest
      → Reads room at s (read p end rest)
  stopped : (row : Row) (position : ℕ) (before rest : List ℕ) → Stop row room before (first rest) → Parts at s before position rest
      → Reads room at s (refused (row_number row) position)

-- ---- one byte

pub data Past (w : ℕ) (s : List ℕ) : Option (List ℕ) → Type 0 where
  there : {rest : List ℕ} → s ≡ w ∷ rest → Past w s (some rest)
  lacking : Lacks w (first s) → Past w s none

pub past_is : (w : ℕ) (s : List ℕ) → Past w s (past w s)
past_is w [] = lacking nothing
past_is w (b ∷ s) =
    by_test (eqb b w) (λ e. rw e (there (ap (λ (x : ℕ). x ∷ s) (eqb-true b w e)))) (λ e. rw e (lacking (found e)))

-- ---- what a plan begins with

pub data Opens (at : ℕ) (s : List ℕ) : ℕ → Opened → Type 0 where
  opens_stop : {room : ℕ} (row : Row) (position : ℕ) (before rest : List ℕ) → Stop row room before (first rest) → Parts at s before position rest
      → Opens at s room (stops (row_number row) position)
  opens_lone : {room : ℕ} {k : Access} {v : ℕ} (end : ℕ) (rest : List ℕ) → Right room (leaf k v) → Unextended LAST_LOCATION v (first rest)
      → Parts at s (print (leaf k v)) end rest → Opens at s room (lone k v end rest)
  opens_inside : {room : ℕ} {o : Operator} {rest : List ℕ} → s ≡ operator_letter o ∷ (40 ∷ rest) → Opens at s (suc room) (inside o rest)

bracket : (room at : ℕ) (o : Operator) (s : List ℕ) (q : Option (List ℕ)) → Past 40 s q
    → Opens at (operator_letter o ∷ s) (suc room) (maybe q (stops 17 (at + 1)) (λ rest. inside o rest))
bracket room at o s (some rest) (there e) = opens_inside (ap (λ (z : List ℕ). operator_letter o ∷ z) e)
bracket room at o s none (lacking l) =
    opens_stop stray (at + 1) (operator_letter o ∷ []) s (no_bracket o l) (record { bytes = refl; place = omega arith })

letter : (room at b : ℕ) (s : List ℕ) (l : code.Option Letter) → letter_of b ≡ l → Spelt b l → Opens at (b ∷ s) room (begun l room at s)
letter room at b s (Some (Leaf k)) e (of_access f) =
    rw f
    (by_token (number LAST_LOCATION s)
    (λ g. rw g
    (opens_stop stray (at + 1) (access_letter k ∷ []) s (no_digit k (no_number LAST_LOCATION s g)) (record { bytes = refl; place = omega arith })))
    (λ n g. let p = each_some (rw g at (number_printed LAST_LOCATION (omega arith) (omega arith) s)) in
    let l = simp length-append at (ap length p.bytes) in
    rw g
    (opens_lone (at + 1 + (length s - length n.1)) n.1 (leaf_right room k n.0 p.in_range) p.whole
    (record { bytes = ap (λ (z : List ℕ). access_letter k ∷ z) p.bytes; place = omega arith }))))
letter zero at b s (Some (Joint o)) e (of_operator f) =
    rw f (opens_stop deep at [] (operator_letter o ∷ s) (no_level o) (record { bytes = refl; place = refl }))
letter (suc room) at b s (Some (Joint o)) e (of_operator f) = rw f (bracket room at o s (past 40 s) (past_is 40 s))
letter room at b s None e of_none = opens_stop stray at [] (b ∷ s) (no_letter (found e)) (record { bytes = refl; place = refl })

pub opens : (room at : ℕ) (s : List ℕ) → Opens at s room (opening room at s)
opens room at [] = opens_stop stray at [] [] (no_letter nothing) (record { bytes = refl; place = refl })
opens room at (b ∷ s) = letter room at b s (letter_of b) refl (spelt b)

-- ---- the reader, turn by turn

pub joined : (x y z : List ℕ) → x ++ (44 ∷ (y ++ (41 ∷ z))) ≡ (x ++ (44 ∷ (y ++ (41 ∷ [])))) ++ z
joined x y z = simp append_assoc

pub inner_eq : (o : Operator) {x y : List ℕ} → x ≡ y → ◌≡◌ {A = List ℕ} (operator_letter o ∷ (40 ∷ x)) (operator_letter o ∷ (40 ∷ y))
inner_eq o e = ap (λ (z : List ℕ). operator_letter o ∷ (40 ∷ z)) e

module _ (room at : ℕ) (o : Operator) (s : List ℕ) (operand : ℕ → List ℕ → Reading) (reading : (i : ℕ) (z : List ℕ) → Reads room i z (operand i z)) where
  abbrev Inner : Reading → Type 0
  Inner r = Reads (suc room) at (operator_letter o ∷ (40 ∷ s)) r

  closed : (a b : Plan) (close : ℕ) (rest : List ℕ) → Right room a → Right room b → Ends b (first rest) → s ≡ print a ++ (44 ∷ (print b ++ rest))
      → close + length rest ≡ at + 2 + length s → (q : Option (List ℕ)) → Past 41 rest q
      → Inner (maybe q (refused 17 close) (λ z. read (pair o a b) (close + 1) z))
  closed a b close rest ra rb eb e k (some z) (there f) =
      let n = ap length f in
      printed (pair o a b) (close + 1) z (pair_right ra rb) pair_ends
      (record { bytes = inner_eq o (e ∙ (rw f (joined (print a) (print b) z))); place = omega arith })
  closed a b close rest ra rb eb e k none (lacking l) =
      stopped stray close (operator_letter o ∷ (40 ∷ (print a ++ (44 ∷ print b)))) rest (no_close o a b ra rb eb l)
      (record { bytes = inner_eq o (e ∙ simp append_assoc); place = omega arith })

  right : (a : Plan) (from : ℕ) (s₂ : List ℕ) → Right room a → s ≡ print a ++ (44 ∷ s₂) → from + length s₂ ≡ at + 2 + length s
      → (r : Reading) → Reads room from s₂ r → Inner (r followed λ b close s₃. closing o a b close s₃)
  right a from s₂ ra e k (read b close rest) (printed p' e' r' rb eb i) =
      let l = i.place in
      closed a b close rest ra rb eb (e ∙ ap (λ (z : List ℕ). print a ++ (44 ∷ z)) i.bytes) (omega arith) (past 41 rest) (past_is 41 rest)
  right a from s₂ ra e k (refused n position) (stopped row pos before rest st i) =
      let l = i.place in
      stopped row pos (operator_letter o ∷ (40 ∷ (print a ++ (44 ∷ before)))) rest (in_right o a before ra st)
      (record { bytes = inner_eq o (e ∙ (rw i.bytes (simp append_assoc))); place = omega arith })

  comma : (a : Plan) (end : ℕ) (rest : List ℕ) → Right room a → Ends a (first rest) → s ≡ print a ++ rest → end + length rest ≡ at + 2 + length s
      → (q : Option (List ℕ)) → Past 44 rest q
      → Inner (maybe q (refused 17 end) (λ s₂. operand (end + 1) s₂ followed λ b close s₃. closing o a b close s₃))
  comma a end rest ra ea e k (some s₂) (there f) =
      let n = ap length f in
      right a (end + 1) s₂ ra (e ∙ ap (λ (z : List ℕ). print a ++ z) f) (omega arith) (operand (end + 1) s₂) (reading (end + 1) s₂)
  comma a end rest ra ea e k none (lacking l) =
      stopped stray end (operator_letter o ∷ (40 ∷ print a)) rest (no_comma o a ra ea l) (record { bytes = inner_eq o e; place = omega arith })

  left : (r : Reading) → Reads room (at + 2) s r
      → Inner (r followed λ a comma s₁. maybe (past 44 s₁) (refused 17 comma) (λ s₂. operand (comma + 1) s₂ followed λ b close s₃. closing o a b close s₃))
  left (read a end rest) (printed p' e' r' ra ea i) = comma a end rest ra ea i.bytes i.place (past 44 rest) (past_is 44 rest)
  left (refused n position) (stopped row pos before rest st i) =
      let k = i.place in
      stopped row pos (operator_letter o ∷ (40 ∷ before)) rest (in_left o st) (record { bytes = inner_eq o i.bytes; place = omega arith })

resumes : (room at : ℕ) (s : List ℕ) (x : Opened) (next : Operator → List ℕ → Reading) → Opens at s room x
    → ((o : Operator) (rest : List ℕ) → s ≡ operator_letter o ∷ (40 ∷ rest) → x ≡ inside o rest → Reads room at s (next o rest))
    → Reads room at s (resumed x next)
resumes room at s (stops n position) next (opens_stop row pos before rest st i) f = stopped row pos before rest st i
resumes room at s (lone k v end rest) next (opens_lone e' r' r u i) f = printed (leaf k v) end rest r (leaf_ends u) i
resumes room at s (inside o rest) next (opens_inside e) f = f o rest e refl

-- An operator with its bracket is there, and a level is left for it.
pub record Inside (room : ℕ) (s : List ℕ) : Type 0 where
  pub some_room : 1 ≤ room
  pub two_bytes : 2 ≤ length s

pub inside_of : {room at : ℕ} {s : List ℕ} {o : Operator} {rest : List ℕ} → Opens at s room (inside o rest) → Inside room s
inside_of (opens_inside e) = let n = ap length e in record { some_room = omega arith; two_bytes = omega arith }

pub reads : (room at : ℕ) (s : List ℕ) → Reads room at s (plan_at room at s)
reads zero at s =
    resumes zero at s (opening zero at s) (λ o rest. refused 18 at) (opens zero at s)
    (λ o rest e f. let i = inside_of (rw f at (opens zero at s)) in absurd (omega arith))
reads (suc room) at s =
    resumes (suc room) at s (opening (suc room) at s) (λ o rest. operands (λ a z. plan_at room a z) o (at + 2) rest) (opens (suc room) at s)
    (λ o rest e f. rw e (left room at o rest (λ a z. plan_at room a z) (reads room) (plan_at room (at + 2) rest) (reads room (at + 2) rest)))

-- A plan that is read was printed.
pub read_parts : {room at : ℕ} {s : List ℕ} {p : Plan} {end : ℕ} {rest : List ℕ} → Reads room at s (read p end rest) → Parts at s (print p) end rest
read_parts (printed p end rest r u i) = i

-- ---- two ways on from what a plan begins with

pub plan_stops : (room at : ℕ) (s : List ℕ) (n q : ℕ) → stops n q ≡ opening room at s → plan_at room at s ≡ refused n q
plan_stops zero at s n q e = rw (← e)
plan_stops (suc room) at s n q e = rw (← e)

pub plan_lone : (room at : ℕ) (s : List ℕ) (k : Access) (v end : ℕ) (rest : List ℕ) → lone k v end rest ≡ opening room at s
    → plan_at room at s ≡ read (leaf k v) end rest
plan_lone zero at s k v end rest e = rw (← e)
plan_lone (suc room) at s k v end rest e = rw (← e)
