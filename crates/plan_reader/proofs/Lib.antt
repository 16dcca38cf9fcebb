-- The laws behind the two passes.
pub mod Rows
pub mod Writing
pub mod Stepping
pub mod Passing
pub mod Planning
