-- What a reader must believe of the output, in the order in which to read it.
pub mod Output
pub mod Runs
