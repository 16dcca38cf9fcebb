-- The examples of the table of refusals (document 01, "Why a trace is turned back", rows 1 to 12), judged as the runs of `Runs` are. Beside them stand
-- examples in which two rows hold or two events fail: "The checks go 1, 2, 3, 4; then for each event 5, 6, 7 and the one row for its kind", and
-- "The first failure decides". Assumes nothing.
use Rattle.std.specs.Prelude.{ℕ, List, [], ◌∷◌, replicate}
use Rattle.trace.specs.Trace.{Event, READ, HALT}
use Rattle.trace.specs.Outcome.{refused}
use Rattle.trace.specs.Runs.{◌read◌, ◌write◌, ◌sum◌, ◌fork◌, ◌join◌, ◌halt, Example, Case, case_of, gives}

-- ---- rows 1 to 4

-- So many cells, with one value in each.
unfoldable pub cells : ℕ → ℕ → List ℕ
cells n value = replicate n value

-- The lengths of the three slices, the numbers of cells of the workspace and of the two order buffers, and the row. All is left unchanged.
abbrev sized : ℕ → ℕ → ℕ → ℕ → ℕ → ℕ → ℕ → Example
sized kinds tasks operands workspace first second number =
    record {
      kinds = cells kinds READ;
      tasks = cells tasks 0;
      operands = cells operands 0;
      workspace = cells workspace 9;
      first = cells first 9;
      second = cells second 9;
      outcome = record { answer = refused number 0; links = 0; workspace = cells workspace 9; first = cells first 9; second = cells second 9 };
    }

-- In the order of the rows; the document's own example first, where a row has several.
unfoldable pub size_examples : List Example
size_examples =
    sized 2 3 3 12291 3 3 1
    ∷ sized 3 2 3 12291 3 3 1
    ∷ sized 3 3 2 12291 3 3 1
    ∷ sized 32769 0 0 0 0 0 1
    ∷ sized 32769 32769 32769 45057 32769 32769 2
    ∷ sized 32769 32769 32769 0 0 0 2
    ∷ sized 1 1 1 12288 1 1 3
    ∷ sized 32768 32768 32768 45055 0 0 3
    ∷ sized 1 1 1 12289 0 1 4
    ∷ sized 1 1 1 12289 1 0 4
    ∷ []

-- ---- rows 5 to 12

-- An event of any kind, and with any operand.
abbrev event : ℕ → ℕ → ℕ → Event
event task kind operand = record { task = task; kind = kind; operand = operand }

-- In the same order. Buffers with no cell to spare pass rows 3 and 4. Where the document had kind 5 stands 6 (document 02, K3).
unfoldable pub examples : List Case
examples =
    gives (event 0 6 0 ∷ []) (refused 5 0)
    ∷ case_of 0 (event 0 6 0 ∷ []) (refused 5 0) 0 [] []
    ∷ gives (event 1 6 0 ∷ []) (refused 5 0)
    ∷ gives (0 halt ∷ event 0 6 0 ∷ []) (refused 5 1)
    ∷ gives (0 halt ∷ 0 sum 0 ∷ []) (refused 6 1)
    ∷ gives (0 halt ∷ 0 read 1 ∷ []) (refused 6 1)
    ∷ gives (0 halt ∷ 0 read 1024 ∷ []) (refused 6 1)
    ∷ gives (1 read 0 ∷ []) (refused 7 0)
    ∷ gives (1 read 1024 ∷ []) (refused 7 0)
    ∷ gives (0 fork 1 ∷ 0 read 0 ∷ []) (refused 7 1)
    ∷ gives (1 read 0 ∷ 0 read 0 ∷ []) (refused 7 0)
    ∷ gives (0 write 1024 ∷ []) (refused 8 0)
    ∷ gives (0 sum 1024 ∷ []) (refused 8 0)
    ∷ gives (0 fork 1024 ∷ []) (refused 9 0)
    ∷ gives (0 fork 0 ∷ []) (refused 10 0)
    ∷ gives (0 join 1 ∷ []) (refused 11 0)
    ∷ gives (event 0 HALT 3 ∷ []) (refused 12 0)
    ∷ []
