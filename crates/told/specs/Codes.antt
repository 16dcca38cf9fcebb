-- What a C caller is told: a code and two values for each thing that document 01 has a call over a trace say, of the judge a third one, and what the call leaves
-- in the lent buffers. Assumes nothing.
use Rattle.std.specs.Prelude.{ℕ, zero, suc, ◌≡◌, Bool, true, false, List, [], ◌∷◌, get_or, take, Result, Ok, Err}
use Rattle.trace.specs.declared.Refusal.{Refusal}
use Rattle.trace.specs.declared.Verdict as answers
use Rattle.trace.specs.Answers.{judge_reply, judge_links}
use Rattle.trace.specs.Outcome.{Reply, says, refused, Verdict, clean, race, Outcome, OrderingOutcome}
use Rattle.convert.specs.Conversion.{Done, done, ConvertOutcome}
use Rattle.pairs.specs.Pairs.{Slices, slices, PairsOutcome}
use Rattle.told.specs.declared.telling.Told as telling

-- The code that is returned, and the values.
pub record Told : Type 0 where
  pub code : ℕ
  pub values : List ℕ

abbrev pub told : ℕ → ℕ → ℕ → Told
told code a b = record { code = code; values = a ∷ b ∷ [] }

abbrev told_links : ℕ → ℕ → ℕ → ℕ → Told
told_links code a b links = record { code = code; values = a ∷ b ∷ links ∷ [] }

-- The judge: 0 clean; 1 race, with s and t; 2 refused, with the number and the position. The third value is the number of links beside the answer.
unfoldable pub judge_told : Reply Verdict → ℕ → Told
judge_told (says clean) links = told_links 0 0 0 links
judge_told (says (race s t)) links = told_links 1 s t links
judge_told (refused number position) links = told_links 2 number position links

-- What a caller hears: the answer that a code and the values of the judge tell,
unfoldable pub heard : ℕ → List ℕ → Reply Verdict
heard zero values = says clean
heard (suc zero) values = says (race (get_or values 0 0) (get_or values 1 0))
heard (suc (suc code)) values = refused (get_or values 0 0) (get_or values 1 0)

-- and the number of links beside it.
unfoldable pub heard_links : List ℕ → ℕ
heard_links values = get_or values 2 0

-- The ordering call: 0 no; 1 yes; 2 refused, with the number and the position.
unfoldable pub ordering_told : Reply Bool → Told
ordering_told (says false) = told 0 0 0
ordering_told (says true) = told 1 0 0
ordering_told (refused number position) = told 2 number position

-- What a caller hears.
unfoldable pub heard_ordering : ℕ → List ℕ → Reply Bool
heard_ordering zero values = says false
heard_ordering (suc zero) values = says true
heard_ordering (suc (suc code)) values = refused (get_or values 0 0) (get_or values 1 0)

-- A call of the judge from C: what is told, and what the workspace and both order buffers then hold.
pub record JudgeCall : Type 0 where
  pub said : Told
  pub workspace : List ℕ
  pub first : List ℕ
  pub second : List ℕ

-- The one that an outcome asks for.
unfoldable pub judge_call : Outcome → JudgeCall
judge_call o = record { said = judge_told o.answer o.links; workspace = o.workspace; first = o.first; second = o.second }

-- The one that is seen: the code returned, the values and the buffers at exit.
abbrev pub judge_seen : ℕ → List ℕ → List ℕ → List ℕ → List ℕ → JudgeCall
judge_seen code values workspace first second =
    record { said = record { code = code; values = values }; workspace = workspace; first = first; second = second }

-- A call of the ordering call from C: what is told, and what the workspace then holds.
pub record OrderingCall : Type 0 where
  pub said : Told
  pub workspace : List ℕ

unfoldable pub ordering_call : OrderingOutcome → OrderingCall
ordering_call o = record { said = ordering_told o.answer; workspace = o.workspace }

abbrev pub ordering_seen : ℕ → List ℕ → List ℕ → OrderingCall
ordering_seen code values workspace = record { said = record { code = code; values = values }; workspace = workspace }

-- ---- the conversion

-- 0 done; 2 refused, with the number and the position.
unfoldable pub conversion_told : Reply Done → Told
conversion_told (says done) = told 0 0 0
conversion_told (refused number position) = told 2 number position

-- What a caller hears.
unfoldable pub heard_conversion : ℕ → List ℕ → Reply Done
heard_conversion zero values = says done
heard_conversion (suc code) values = refused (get_or values 0 0) (get_or values 1 0)

-- A call of the conversion from C: what is told, and what the operands and the workspace then hold.
pub record ConvertCall : Type 0 where
  pub said : Told
  pub operands : List ℕ
  pub workspace : List ℕ

unfoldable pub convert_call : ConvertOutcome → ConvertCall
convert_call o = record { said = conversion_told o.answer; operands = o.operands; workspace = o.workspace }

abbrev pub convert_seen : ℕ → List ℕ → List ℕ → List ℕ → ConvertCall
convert_seen code values operands workspace =
    record { said = record { code = code; values = values }; operands = operands; workspace = workspace }

-- ---- a number

-- A call that says how many there are, of pairs or of events: 0 with the number; 2 refused, with the number of the row and the position.
unfoldable pub count_told : Reply ℕ → Told
count_told (says count) = told 0 count 0
count_told (refused number position) = told 2 number position

-- What a caller hears.
unfoldable pub heard_count : ℕ → List ℕ → Reply ℕ
heard_count zero values = says (get_or values 0 0)
heard_count (suc code) values = refused (get_or values 0 0) (get_or values 1 0)

-- ---- every close pair

-- A call for pairs from C: what is told, and what the two slices and the workspace then hold.
pub record PairsCall : Type 0 where
  pub said : Told
  pub slices : Slices
  pub workspace : List ℕ

unfoldable pub pairs_call : PairsOutcome → PairsCall
pairs_call o = record { said = count_told o.answer; slices = o.slices; workspace = o.workspace }

abbrev pub pairs_seen : ℕ → List ℕ → List ℕ → List ℕ → List ℕ → PairsCall
pairs_seen code values earlier later workspace =
    record { said = record { code = code; values = values }; slices = slices earlier later; workspace = workspace }

-- ---- how an answer is told

-- What is told by a code and the first n values, as the code holds them.
abbrev pub first_values : ℕ → telling.Told → Told
first_values n told = record { code = told.code; values = take n told.values }

-- For each answer that is no refusal,
abbrev pub TellsVerdict : answers.Verdict → telling.Told → Type 0
TellsVerdict verdict told = first_values 3 told ≡ judge_told (judge_reply (Ok verdict)) (judge_links (Ok verdict))

abbrev pub TellsOrder : Bool → telling.Told → Type 0
TellsOrder reaches told = first_values 2 told ≡ ordering_told (says reaches)

abbrev pub TellsDone : Unit {0} → telling.Told → Type 0
TellsDone converted told = first_values 2 told ≡ conversion_told (says done)

abbrev pub TellsCount : ℕ → telling.Told → Type 0
TellsCount count told = first_values 2 told ≡ count_told (says count)

-- and for a refusal: no links beside it.
abbrev pub TellsRefusal : Refusal → telling.Told → Type 0
TellsRefusal r told = told ≡ record { code = 2; values = r.number ∷ r.position ∷ 0 ∷ [] }

-- A code and n values tell an answer, by what it converts to, or a refusal.
abbrev pub Tells : {A : Type 0} → ℕ → (A → telling.Told → Type 0) → Result A Refusal → ℕ → List ℕ → Type 0
Tells n Converts (Ok said) code values = (told : telling.Told) × Converts said told × (record { code = code; values = values } ≡ first_values n told)
Tells n Converts (Err r) code values = (told : telling.Told) × TellsRefusal r told × (record { code = code; values = values } ≡ first_values n told)
