-- The definitions that the contracts cite, in reading order.
pub mod Cards
pub mod Demands
pub mod Tally
