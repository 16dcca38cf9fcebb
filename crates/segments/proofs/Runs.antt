-- Two traces and their second order, by computation. Assumes nothing.
use mathlib.Core.Path.{◌≡◌, refl}
use mathlib.Core.List.{[], ◌∷◌, map}
use Rattle.trace.specs.Trace.{trace_of, is_access}
use Rattle.segments.specs.Segments.{moves, segment, insert_after, top, source, opened, segments, rank}

-- `0 fork 1`, `1 write 5`, `1 halt`, `0 read 5`: segment 2, that of the read, stands before segment 1, that of the write. So they race.
pub parted_order : (segments (trace_of (2 ∷ 1 ∷ 4 ∷ 0 ∷ []) [] []) 4).order ≡ 0 ∷ 2 ∷ 1 ∷ []
unfolding trace_of is_access moves insert_after top source opened segments
parted_order = refl

pub parted_ranks : map (rank (trace_of (2 ∷ 1 ∷ 4 ∷ 0 ∷ []) [] []) 4) (0 ∷ 1 ∷ 2 ∷ 3 ∷ []) ≡ 0 ∷ 2 ∷ 2 ∷ 1 ∷ []
unfolding trace_of is_access moves insert_after top source opened segments segment rank
parted_ranks = refl

-- The same, and then `0 join 1`, `0 read 5`: the join's segment stands after that of the halt, and the last read is reached.
pub joined_ranks : map (rank (trace_of (2 ∷ 1 ∷ 4 ∷ 0 ∷ 3 ∷ 0 ∷ []) [] []) 6) (0 ∷ 1 ∷ 2 ∷ 3 ∷ 4 ∷ 5 ∷ []) ≡ 0 ∷ 2 ∷ 2 ∷ 1 ∷ 3 ∷ 3 ∷ []
unfolding trace_of is_access moves insert_after top source opened segments segment rank
joined_ranks = refl
