-- The law behind a run: `Running`.
pub mod Running
