-- What a reader must believe, in the order in which to read it.
pub mod Trace
pub mod Lent
pub mod Held
pub mod Line
pub mod Graph
pub mod Race
pub mod Orders
pub mod Search
pub mod Joins
pub mod Outcome
pub mod Demands
pub mod Slices
pub mod Answers
pub mod Rows
pub mod Runs
pub mod Refusals
