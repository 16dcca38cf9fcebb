-- The theorems on the text form, with no code in sight: `Lines`, `TextForm`, `LongTexts`, `Accepted`, `HaltOperands`.
pub mod Lines
pub mod Parsing
pub mod TextForm
pub mod EventCounts
pub mod LongTexts
pub mod Accepted
pub mod HaltOperands
