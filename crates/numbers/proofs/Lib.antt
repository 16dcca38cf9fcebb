-- The theorems on decimal numbers (`Decimal`), and the laws behind the code.
pub mod Tokens
pub mod Decimal
pub mod Scans
