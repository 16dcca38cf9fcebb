-- What a reader must believe of the program's answer to a text, in the order in which to read it.
pub mod Answer
pub mod Runs
