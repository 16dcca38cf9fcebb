-- The definitions that the contracts cite, in the order in which to read them.
pub mod Tables
pub mod Forest
