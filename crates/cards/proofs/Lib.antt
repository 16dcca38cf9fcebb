-- The laws behind the contracts, and of the call with the records themselves (Records, Demanding, Finishing), which is in `capi`.
pub mod Leaves
pub mod Touching
pub mod Tallying
pub mod Counting
pub mod Records
pub mod Meaning
pub mod Demanding
pub mod Finishing
pub mod LaidOut
