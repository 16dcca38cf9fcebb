-- What a reader must believe of the reading of standard input.
pub mod Reading
