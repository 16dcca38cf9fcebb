-- Runs that tell another table of joins, beside the runs `chains` of `trace`: the largest number of links after all events, computed. They stand here since every
-- edit of `trace` would compute them again. Assumes nothing.
use Prim.Native.Nat.{ℕ}
use mathlib.Core.Path.{◌≡◌, refl}
use mathlib.Core.List.{List, [], ◌∷◌, ◌++◌, map}
use lib.ListN.{length}
use Rattle.trace.specs.Trace.{Event, trace_of}
use Rattle.trace.specs.Search.{count_below, largest_below}
use Rattle.trace.specs.Joins.{alone, top_within, links_within, top_of, links_of, tree_size, hung, united, joined_by, joins_after, longest_after}
use Rattle.trace.specs.Runs.{◌fork◌, ◌join◌, ◌halts_to◌, ◌halt, leaf, star, pair}

-- The largest number after all of these events.
unfoldable pub links : List Event → ℕ
links events = longest_after (trace_of (map (λ e. e.kind) events) (map (λ e. e.task) events) (map (λ e. e.operand) events)) (length events)

-- A star of five goes by tasks and not by links, so that two pairs made one hang under it.
unfoldable pub by_tasks : List Event
by_tasks = pair 0 1 ++ (0 fork 3 ∷ leaf 3 4 ++ (3 join 1 ∷ 3 halt ∷ star 0 5 ++ (leaf 0 8 ++ (0 join 3 ∷ []))))

-- A joined task whose top is another: that one is hung, or hung under.
unfoldable pub top_is_hung : List Event
top_is_hung = leaf 0 1 ++ (0 fork 2 ∷ 2 fork 3 ∷ leaf 3 4 ++ (3 halts_to 2 ∷ 2 join 3 ∷ 2 halt ∷ 0 join 2 ∷ []))

unfoldable pub under_the_top : List Event
under_the_top = 0 fork 1 ∷ 1 fork 2 ∷ 2 halts_to 1 ∷ 1 fork 3 ∷ 3 join 2 ∷ 3 halts_to 1 ∷ 1 join 3 ∷ 1 halt ∷ 0 join 1 ∷ []

-- A tree of four tasks joins one of five.
unfoldable pub four_and_five : List Event
four_and_five =
    leaf 0 1
    ++ (0 fork 2 ∷ 2 fork 3 ∷ 3 fork 4 ∷ leaf 4 5 ++ (4 fork 6 ∷ pair 6 7 ++ (6 join 7 ∷ 6 halts_to 4 ∷ 4 join 6 ∷ 4 halts_to 3 ∷ 3 halts_to 2 ∷ 2 halt ∷ 0 join 2 ∷ 0 join 3
    ∷ 0 join 4 ∷ [])))

-- The search for the top of a joined task, and of a joiner, passes over links: none of them changes.
unfoldable pub joined_searched : List Event
joined_searched =
    0 fork 1 ∷ leaf 1 2 ++ (1 fork 3 ∷ pair 3 4 ++ (3 join 4 ∷ 3 halts_to 1 ∷ 1 join 3 ∷ 1 fork 6 ∷ 6 fork 7 ∷ 7 fork 8 ∷ 8 halts_to 7 ∷ 7 fork 9 ∷ 9 fork 10 ∷ 10 join 8
    ∷ leaf 10 11 ++ (10 halts_to 9 ∷ 9 join 10 ∷ 9 halts_to 7 ∷ 7 join 9 ∷ 7 halts_to 6 ∷ 6 join 7 ∷ 6 halts_to 1 ∷ 1 join 6 ∷ 1 halt ∷ 0 join 1 ∷ [])))

unfoldable pub joiner_searched : List Event
joiner_searched =
    leaf 0 1
    ++ (0 fork 2 ∷ leaf 2 3 ++ (2 fork 4 ∷ 4 fork 5 ∷ 5 fork 6 ∷ 6 halts_to 5 ∷ 5 fork 7 ∷ 7 join 6 ∷ leaf 7 8 ++ (leaf 7 9 ++ (7 fork 10 ∷ 10 fork 11 ∷ 11 halts_to 10 ∷ 10 halts_to 7
    ∷ 7 join 10 ∷ 7 halts_to 5 ∷ 5 join 7 ∷ 5 halts_to 4 ∷ 4 halts_to 2 ∷ 2 join 4 ∷ 2 halt ∷ 0 join 2 ∷ 0 join 5 ∷ 0 join 11 ∷ []))))

-- And the last task, which counts too.
pub links_as_expected :
    map links (by_tasks ∷ top_is_hung ∷ under_the_top ∷ four_and_five ∷ joined_searched ∷ joiner_searched ∷ leaf 0 1023 ∷ [])
    ≡ 3 ∷ 2 ∷ 1 ∷ 2 ∷ 3 ∷ 3 ∷ 1 ∷ []
unfolding links trace_of count_below largest_below alone top_within links_within top_of links_of tree_size hung united joined_by joins_after longest_after by_tasks
    top_is_hung under_the_top four_and_five joined_searched joiner_searched
links_as_expected = refl
