-- The laws of the list of segments in cells.
pub mod Leaves
pub mod Counting
pub mod Spreading
pub mod Numbering
pub mod Passing
pub mod Opening
pub mod Listing
pub mod Ranking
