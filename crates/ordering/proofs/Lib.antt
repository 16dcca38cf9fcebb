-- The laws of the ordering call.
pub mod Answering
pub mod Asking
