-- The theorems on plans: `Accepts` and `Refuses` say that the reader takes exactly the grammar, `Tracing` what the trace is like, `Deciding` that what the text
-- decides is what the reader gives.
pub mod Spelling
pub mod Stops
pub mod Accepts
pub mod Refuses
pub mod EventOrder
pub mod Stretches
pub mod Standing
pub mod Running
pub mod Tracing
pub mod Fitting
pub mod Deciding
