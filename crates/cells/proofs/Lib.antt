-- Laws of cells that belong to no one function.
pub mod Zeroed
pub mod Filling
pub mod Rests
