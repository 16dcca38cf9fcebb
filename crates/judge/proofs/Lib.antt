-- The laws of the judge.
pub mod Deciding
pub mod Judging
