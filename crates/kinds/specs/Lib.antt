-- What the contracts cite beside the definitions of `trace`.
pub mod Kinds
