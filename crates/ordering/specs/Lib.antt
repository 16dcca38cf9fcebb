-- What the ordering call answers.
pub mod Asks
