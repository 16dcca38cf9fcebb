-- The text form. To be believed: `Form`, `Events` and `Decided`, in this order, which say what a text decides. `Reading` and `Translation` say it again as the
-- code finds it; `Runs` has texts to go by.
pub mod Form
pub mod Events
pub mod Decided
pub mod Reading
pub mod Translation
pub mod Runs
