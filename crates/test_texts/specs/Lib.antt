-- What the building of a text promises.
pub mod Building
