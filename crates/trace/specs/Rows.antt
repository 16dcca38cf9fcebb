-- The numbers of the rows that the code names (document 01, "Why a trace is turned back", and what document 02 adds to its table). Assumes nothing.
use Rattle.std.specs.Prelude.{ℕ, ◌≡◌}
use Rattle.trace.specs.declared.Row.{Row}
use Rattle.trace.specs.declared.Refusal.{Refusal}

abbrev pub row_number : Row → ℕ
row_number Row.UnequalSlices = 1
row_number Row.ManyEvents = 2
row_number Row.ShortWorkspace = 3
row_number Row.ShortOrders = 4
row_number Row.UnknownKind = 5
row_number Row.Ended = 6
row_number Row.NotRunning = 7
row_number Row.UnknownLocation = 8
row_number Row.UnknownTask = 9
row_number Row.UsedTask = 10
row_number Row.NotLeft = 11
row_number Row.NotResumed = 12
row_number Row.UnknownPosition = 13
row_number Row.NoLine = 14
row_number Row.LongText = 15
row_number Row.FewRecords = 16
row_number Row.NoPlan = 17
row_number Row.DeepPlan = 18
row_number Row.LargePlan = 19
row_number Row.ShortList = 20

-- A row, met at a position.
abbrev pub refusal_at : Row → ℕ → Refusal
refusal_at row position = record { number = row_number row; position = position }

-- "A refusal tied to no event, line or byte has position 0."
abbrev pub RefusedAtStart : Row → Refusal → Type 0
RefusedAtStart row refusal = refusal ≡ refusal_at row 0
