-- Laws of kinds by their numbers, and the rule of the table of conflicts.
pub mod ByNumber
pub mod ConflictTable
