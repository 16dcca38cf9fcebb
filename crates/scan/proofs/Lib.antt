-- Laws of the tables, of the loop, and of what it finds: the last is what the crates above use.
pub mod Kept
pub mod Largest
pub mod Scanning
pub mod Racing
