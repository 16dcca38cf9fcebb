-- A law behind the contracts.
pub mod Filled
