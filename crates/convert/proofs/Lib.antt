-- The laws of the conversion.
pub mod Converting
pub mod EachOperand
pub mod Meaning
pub mod Again
pub mod Promising
