-- The laws behind the reading of standard input.
pub mod Deciding
pub mod Reading
