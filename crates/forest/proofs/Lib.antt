-- Laws that belong to no one function: of tables (Merged, Exponents, Tops, Hung, Unions, Same), of the joins of a trace (Joins, whose `few_links` is the bound), of the
-- heights of trees (Heights), and of the cells that hold a table (HungCells, Cells, Climb). Runs: the definitions, computed.
pub mod Merged
pub mod Exponents
pub mod Tops
pub mod Hung
pub mod Unions
pub mod Same
pub mod Joins
pub mod Heights
pub mod HungCells
pub mod Cells
pub mod Climb
pub mod Runs
