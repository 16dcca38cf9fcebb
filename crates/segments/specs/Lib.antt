-- The second order of a trace. Nothing here is to be believed: what the numbers say is proved, in terms of `trace`.
pub mod Segments
