-- The laws behind the contracts.
pub mod Seen
pub mod Copies
pub mod Translations
pub mod Plans
