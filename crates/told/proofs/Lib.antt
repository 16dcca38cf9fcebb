-- The laws behind the contracts.
pub mod Replies
pub mod Heard
pub mod Orderings
pub mod Conversions
pub mod ClosePairs
