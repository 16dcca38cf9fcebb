-- The laws behind the contracts, and the theorem on long texts: `LongTexts`.
pub mod Answering
pub mod LongTexts
