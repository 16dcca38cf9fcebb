-- The laws of the size checks.
pub mod Checks
pub mod Sizing
