-- The laws of close pairs.
pub mod Partners
pub mod Storing
pub mod PairLists
pub mod Taking
pub mod Visiting
pub mod Passing
pub mod Gathering
pub mod Meaning
pub mod Demanding
pub mod Promising
