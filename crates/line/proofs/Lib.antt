-- The laws that tie the cells to the run of a trace, and what the functions of this crate need.
pub mod Bounds
pub mod Rows
pub mod Moves
pub mod EventLaw
pub mod Events
pub mod Depths
