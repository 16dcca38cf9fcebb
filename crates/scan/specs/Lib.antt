-- What the contracts cite, in the order in which to read it.
pub mod Numbered
pub mod Tables
