-- Plans in series and parallel. To be believed: `Plans`, `Events`, `Leaves` and `Decided`, in this order, which say what a text decides and what its trace is like.
-- They rest on `Decimal` of `numbers` (a location's text) and `Slices` of `trace` (what is left in the slices). `Reading` and `Tracing` say it again as the code
-- finds it; `Runs` has texts to go by.
pub mod Plans
pub mod Events
pub mod Leaves
pub mod Decided
pub mod Reading
pub mod Tracing
pub mod Runs
