-- What a race leaves.
pub mod Reports
