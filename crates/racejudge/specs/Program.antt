-- WHAT THE PROGRAM SAYS to what it takes in: the bytes for standard output, and what is told on standard error. Assumes nothing.
use Rattle.std.specs.Prelude.{ℕ, ◌≡◌, Bool, true, false, List, [], ◌++◌, take, Option, Some, None, Result, Ok, Err}
use Rattle.input.specs.declared.InputError.{InputError}
use Rattle.input.specs.declared.InputError.TheVariants.{Failed, Arguments}
use Rattle.input.specs.Reading.{Whole, full, ended, AsRead, Received}
use Rattle.answer.specs.Answer.{text_answer, AnswersRead, TextLinks}
use Rattle.racejudge.specs.declared.Trouble.{Trouble}
use Rattle.racejudge.specs.declared.Trouble.TheVariants.{HasArguments, CannotRead, CannotWrite}

-- What may follow in the input behind the bytes that were read: where one more read gave 0, nothing; where the buffer is full, anything.
abbrev pub MayFollow : {before bytes after : List ℕ} → Whole before bytes after → List ℕ → Type 0
MayFollow (full _ _) rest = Unit {0}
MayFollow (ended _) rest = rest ≡ []

-- THE OUTPUT is the answer to every input that gives these reads: to the bytes that they gave, in order, and whatever may follow them.
pub record AnswersInput (start text : List ℕ) (count : ℕ) (output : List ℕ) : Type 0 where
  pub read : AsRead start text count
  pub answer : (rest : List ℕ) → MayFollow read.whole rest → output ≡ text_answer (read.bytes ++ rest)

-- After a failed read, and with arguments, there is no output.
abbrev pub Answers : List ℕ → List ℕ → Result ℕ InputError → List ℕ → Type 0
Answers start text (Ok count) output = AnswersInput start text count output
Answers start text (Err e) output = output ≡ []

-- ONE RUN, started with so many words: what it takes in, and its output.
pub record Runs (words : ℕ) (start text : List ℕ) (taken : Result ℕ InputError) (output : List ℕ) : Type 0 where
  pub received : Received words start text taken
  pub answers : Answers start text taken output

-- How long the chains get where the bytes that were read are judged (document 02, K2); else there is no trace.
abbrev pub TakenLinks : Result ℕ InputError → List ℕ → Type 0
TakenLinks (Ok count) text = TextLinks (take count text)
TakenLinks (Err e) text = Unit {0}

-- What is told on standard error, where `written` says whether the output was.
unfoldable pub trouble_of : Result ℕ InputError → Bool → Option Trouble
trouble_of (Err Arguments) written = Some HasArguments
trouble_of (Err Failed) written = Some CannotRead
trouble_of (Ok count) true = None
trouble_of (Ok count) false = Some CannotWrite

-- ---- what `respond` promises of the buffer that the output is put in; proved to come to the above

abbrev pub Responds : Result ℕ InputError → List ℕ → List ℕ → List ℕ → ℕ → Type 0
Responds (Ok count) text out after used = AnswersRead text count out after used
Responds (Err e) text out after used = (after ≡ out) × (used ≡ 0)
