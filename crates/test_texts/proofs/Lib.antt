-- The law behind the building of a text.
pub mod Building
