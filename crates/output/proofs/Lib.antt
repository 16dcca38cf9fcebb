-- The laws behind the contracts, and the theorem that every output about a text's trace fits (`Rendered`).
pub mod Rendering
pub mod Rendered
