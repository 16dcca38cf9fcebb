-- Decimal numbers in a text. To be believed: `Decimal`, which says what a number's text is. `Reading` says how one is read.
pub mod Options
pub mod Decimal
pub mod Reading
pub mod Answers
