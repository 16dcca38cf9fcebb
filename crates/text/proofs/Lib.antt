-- The laws behind the contracts.
pub mod StackLaws
pub mod TokenRows
pub mod ImpliedHalts
pub mod LineEvents
pub mod Translating
pub mod Stored
