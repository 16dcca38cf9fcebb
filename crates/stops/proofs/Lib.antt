-- Laws of stops: those that a walk over them stands on, and those of the list in cells.
pub mod Counting
pub mod Quiet
pub mod Collecting
pub mod Standing
