-- What a reader must believe of the program, in the order in which to read it.
pub mod Program
