-- The runs of document 01 that are marked † ("Runs to go by"), as one table of trace and outcome, judged by the very function that the judge's contract
-- cites; those that tell a judge that deceives; those that tell another rule for sums; another for a halt's operand; and another table of joins. Assumes
-- nothing.
use Rattle.std.specs.Prelude.{ℕ, ◌+◌, List, [], ◌∷◌, ◌++◌, map, length, drop, replicate}
use Rattle.trace.specs.Trace.{Event, READ, WRITE, FORK, JOIN, HALT, SUM, WORKSPACE_CELLS}
use Rattle.trace.specs.Outcome.{Reply, says, refused, Verdict, clean, race, Outcome, judge_outcome}

-- "`0 fork 1` means task 0 forks task 1."
infix 80 ◌read◌
infix 80 ◌write◌
infix 80 ◌sum◌
infix 80 ◌fork◌
infix 80 ◌join◌
infix 80 ◌halts_to◌
infix 80 ◌halt
abbrev pub ◌read◌ : ℕ → ℕ → Event
x read l = record { task = x; kind = READ; operand = l }

abbrev pub ◌write◌ : ℕ → ℕ → Event
x write l = record { task = x; kind = WRITE; operand = l }

abbrev pub ◌sum◌ : ℕ → ℕ → Event
x sum l = record { task = x; kind = SUM; operand = l }

abbrev pub ◌fork◌ : ℕ → ℕ → Event
x fork a = record { task = x; kind = FORK; operand = a }

abbrev pub ◌join◌ : ℕ → ℕ → Event
x join a = record { task = x; kind = JOIN; operand = a }

-- Document 02, K6: "A halt's operand now names the task that resumes; for task 0's own halt it is 0."
abbrev pub ◌halts_to◌ : ℕ → ℕ → Event
x halts_to parent = record { task = x; kind = HALT; operand = parent }

abbrev pub ◌halt : ℕ → Event
x halt = x halts_to 0

-- What is lent to the judge, and the outcome that is named for it.
pub record Example : Type 0 where
  pub kinds : List ℕ
  pub tasks : List ℕ
  pub operands : List ℕ
  pub workspace : List ℕ
  pub first : List ℕ
  pub second : List ℕ
  pub outcome : Outcome

-- A row of a table: the cells to spare, a trace, its answer past rows 1 to 4, the links beside it, and the two orders that it leaves (none but after a race).
pub record Case : Type 0 where
  pub spare : ℕ
  pub events : List Event
  pub answer : Reply Verdict
  pub links : ℕ
  pub order₁ : List ℕ
  pub order₂ : List ℕ

-- What is lent where n cells are needed: so many cells more, and 9 in every cell.
abbrev pub lent_for : ℕ → ℕ → List ℕ
lent_for spare n = replicate (n + spare) 9

abbrev pub kinds_of : List Event → List ℕ
kinds_of events = map (λ e. e.kind) events

abbrev pub tasks_of : List Event → List ℕ
tasks_of events = map (λ e. e.task) events

abbrev pub operands_of : List Event → List ℕ
operands_of events = map (λ e. e.operand) events

-- A buffer that begins with an order.
abbrev pub holding : List ℕ → List ℕ → List ℕ
holding order buffer = order ++ drop (length order) buffer

-- What is lent for it.
unfoldable pub lent : Case → Example
lent r =
    let n = length r.events in
    record {
      kinds = kinds_of r.events;
      tasks = tasks_of r.events;
      operands = operands_of r.events;
      workspace = lent_for r.spare (WORKSPACE_CELLS + n);
      first = lent_for r.spare n;
      second = lent_for r.spare n;
      outcome =
          record {
            answer = r.answer;
            links = r.links;
            workspace = replicate (WORKSPACE_CELLS + n) 0 ++ replicate r.spare 9;
            first = holding r.order₁ (lent_for r.spare n);
            second = holding r.order₂ (lent_for r.spare n);
          };
    }

abbrev pub case_of : ℕ → List Event → Reply Verdict → ℕ → List ℕ → List ℕ → Case
case_of spare events answer links order₁ order₂ =
    record { spare = spare; events = events; answer = answer; links = links; order₁ = order₁; order₂ = order₂ }

-- With one cell to spare; and, but for the next two, no links.
abbrev pub gives : List Event → Reply Verdict → Case
gives events answer = case_of 1 events answer 0 [] []

abbrev pub joins : List Event → ℕ → Case
joins events links = case_of 1 events (says clean) links [] []

abbrev races : List Event → ℕ → ℕ → ℕ → List ℕ → List ℕ → Case
races events s t links order₁ order₂ = case_of 1 events (says (race s t)) links order₁ order₂

unfoldable pub runs : List Case
runs =
    gives [] (says clean)
    ∷ gives (0 write 1023 ∷ []) (says clean)
    ∷ gives (0 write 1024 ∷ []) (refused 8 0)
    ∷ gives (0 fork 1023 ∷ []) (says clean)
    ∷ gives (0 fork 1024 ∷ []) (refused 9 0)
    ∷ gives (0 fork 1 ∷ 1 read 5 ∷ 1 halt ∷ 0 read 5 ∷ []) (says clean)
    ∷ races (0 fork 1 ∷ 1 read 5 ∷ 1 halt ∷ 0 write 5 ∷ []) 1 3 0 (0 ∷ 1 ∷ 3 ∷ 2 ∷ []) (0 ∷ 3 ∷ 1 ∷ 2 ∷ [])
    ∷ races (0 fork 1 ∷ 1 write 5 ∷ 1 write 5 ∷ 1 halt ∷ 0 read 5 ∷ []) 1 4 0 (0 ∷ 1 ∷ 4 ∷ 2 ∷ 3 ∷ []) (0 ∷ 4 ∷ 1 ∷ 2 ∷ 3 ∷ [])
    ∷ gives (0 fork 1 ∷ 1 halt ∷ 0 fork 2 ∷ 2 halt ∷ 0 join 1 ∷ []) (refused 11 4)
    ∷ joins (0 fork 1 ∷ 1 halt ∷ 0 fork 2 ∷ 2 halt ∷ 0 join 2 ∷ 0 join 1 ∷ []) 1
    ∷ races (0 fork 1 ∷ 1 read 7 ∷ 1 halt ∷ 0 read 7 ∷ 0 fork 2 ∷ 2 join 1 ∷ 2 halt ∷ 0 write 7 ∷ [])
    1
    7
    1
    (0 ∷ 3 ∷ 4 ∷ 1 ∷ 7 ∷ 2 ∷ 5 ∷ 6 ∷ [])
    (0 ∷ 3 ∷ 4 ∷ 7 ∷ 1 ∷ 2 ∷ 5 ∷ 6 ∷ [])
    ∷ joins (0 fork 1 ∷ 1 read 7 ∷ 1 halt ∷ 0 read 7 ∷ 0 fork 2 ∷ 2 join 1 ∷ 2 halt ∷ 0 join 2 ∷ 0 write 7 ∷ []) 1
    ∷ []

-- What two of the "Judges that deceive" get wrong: one that remembers only the last reader, and one that takes a paused parent's accesses before the fork
-- as unordered with its child's. (The runs above have what the others get wrong.)
unfoldable pub deceivers : List Case
deceivers =
    races (0 fork 1 ∷ 1 read 5 ∷ 1 halt ∷ 0 fork 2 ∷ 2 read 5 ∷ 2 halt ∷ 0 join 2 ∷ 0 write 5 ∷ [])
    1
    7
    1
    (0 ∷ 3 ∷ 4 ∷ 5 ∷ 6 ∷ 1 ∷ 7 ∷ 2 ∷ [])
    (0 ∷ 3 ∷ 4 ∷ 5 ∷ 6 ∷ 7 ∷ 1 ∷ 2 ∷ [])
    ∷ gives (0 write 5 ∷ 0 fork 1 ∷ 1 write 5 ∷ []) (says clean)
    ∷ []

-- ---- sums (document 02, K3)

-- Two sums that no path joins are clean, also where a read comes before both and another after both. A sum and a read, or a write, that no path joins race,
-- either way round; so does the first of two sums where only the second reaches the read.
unfoldable pub counters : List Case
counters =
    gives (0 fork 1 ∷ 1 sum 5 ∷ 1 halt ∷ 0 sum 5 ∷ []) (says clean)
    ∷ joins (0 read 5 ∷ 0 fork 1 ∷ 1 sum 5 ∷ 1 halt ∷ 0 sum 5 ∷ 0 join 1 ∷ 0 read 5 ∷ 0 sum 5 ∷ []) 1
    ∷ races (0 fork 1 ∷ 1 sum 5 ∷ 1 halt ∷ 0 read 5 ∷ []) 1 3 0 (0 ∷ 1 ∷ 3 ∷ 2 ∷ []) (0 ∷ 3 ∷ 1 ∷ 2 ∷ [])
    ∷ races (0 fork 1 ∷ 1 read 5 ∷ 1 halt ∷ 0 sum 5 ∷ []) 1 3 0 (0 ∷ 1 ∷ 3 ∷ 2 ∷ []) (0 ∷ 3 ∷ 1 ∷ 2 ∷ [])
    ∷ races (0 fork 1 ∷ 1 sum 5 ∷ 1 halt ∷ 0 write 5 ∷ []) 1 3 0 (0 ∷ 1 ∷ 3 ∷ 2 ∷ []) (0 ∷ 3 ∷ 1 ∷ 2 ∷ [])
    ∷ races (0 fork 1 ∷ 1 write 5 ∷ 1 halt ∷ 0 sum 5 ∷ []) 1 3 0 (0 ∷ 1 ∷ 3 ∷ 2 ∷ []) (0 ∷ 3 ∷ 1 ∷ 2 ∷ [])
    ∷ races (0 fork 1 ∷ 1 sum 5 ∷ 1 halt ∷ 0 sum 5 ∷ 0 read 5 ∷ []) 1 4 0 (0 ∷ 3 ∷ 1 ∷ 4 ∷ 2 ∷ []) (0 ∷ 3 ∷ 4 ∷ 1 ∷ 2 ∷ [])
    ∷ []

-- ---- halts say who runs on (document 02, K6)

-- A halt names the parent, also where that is not task 0: with 0 there row 12 is met.
unfoldable pub nests : List Case
nests =
    gives (0 fork 1 ∷ 1 fork 2 ∷ 2 fork 3 ∷ 3 halts_to 2 ∷ 2 halts_to 1 ∷ 1 halts_to 0 ∷ 0 halts_to 0 ∷ []) (says clean)
    ∷ gives (0 fork 1 ∷ 1 fork 2 ∷ 2 halts_to 0 ∷ []) (refused 12 2)
    ∷ gives (0 fork 1 ∷ 1 fork 2 ∷ 2 halts_to 2 ∷ []) (refused 12 2)
    ∷ gives (0 fork 1 ∷ 1 halts_to 1 ∷ []) (refused 12 1)
    ∷ gives (0 fork 1 ∷ 1 fork 2 ∷ 2 halts_to 1 ∷ 1 fork 3 ∷ 3 halts_to 2 ∷ []) (refused 12 4)
    ∷ []

-- ---- the table of joins (document 02, K2)

-- Task x forks the task a, which halts at once and is joined.
abbrev pub leaf : ℕ → ℕ → List Event
leaf x a = x fork a ∷ a halts_to x ∷ x join a ∷ []

-- Task x has a star of four tasks: three hang under it, by one link each.
abbrev pub star : ℕ → ℕ → List Event
star x a = leaf x a ++ leaf x (a + 1) ++ leaf x (a + 2)

-- Task x forks the task a, which gets a pair, one task under the other, and halts.
abbrev pub pair : ℕ → ℕ → List Event
pair x a = x fork a ∷ leaf a (a + 1) ++ (a halts_to x ∷ [])

-- Two trees of four tasks each, a star and two pairs made one, which have 1 and 2 links: the joiner's top stays, also where its number is the larger. A joiner
-- whose top is another task. A race, which the join after it does not count for, and a refusal. (Crate `forest` has more: `links_as_expected`.)
unfoldable pub chains : List Case
chains =
    joins (pair 0 1 ++ (0 fork 3 ∷ leaf 3 4 ++ (3 join 1 ∷ 3 halt ∷ star 0 5 ++ (0 join 3 ∷ [])))) 3
    ∷ joins (0 fork 1 ∷ star 1 2 ++ (1 halt ∷ pair 0 5 ++ (leaf 0 7 ++ (0 join 5 ∷ 0 join 1 ∷ [])))) 2
    ∷ joins (0 fork 1 ∷ star 1 2 ++ (1 halt ∷ 0 fork 5 ∷ leaf 5 6 ++ (pair 5 7 ++ (5 join 7 ∷ 5 join 1 ∷ [])))) 2
    ∷ joins (0 fork 1 ∷ leaf 1 2 ++ (leaf 1 3 ++ (1 halt ∷ pair 0 4 ++ (0 join 4 ∷ 0 join 1 ∷ [])))) 2
    ∷ races (0 fork 1 ∷ 1 write 5 ∷ 1 halt ∷ 0 read 5 ∷ 0 join 1 ∷ []) 1 3 0 (0 ∷ 1 ∷ 3 ∷ 2 ∷ []) (0 ∷ 3 ∷ 1 ∷ 2 ∷ [])
    ∷ gives (leaf 0 1 ++ (0 write 1024 ∷ [])) (refused 8 3)
    ∷ []

-- The judge's outcome for what is lent, and the one that is named.
unfoldable pub judged : Example → Outcome
judged e = judge_outcome e.kinds e.tasks e.operands e.workspace e.first e.second

unfoldable pub expected : Example → Outcome
expected e = e.outcome
