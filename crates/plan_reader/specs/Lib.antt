-- What the two passes of the reader hand on. To be believed is what `plan` says; nothing here.
pub mod Answers
pub mod Machine
