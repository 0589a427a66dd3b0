-- What only private clauses and proofs name.
pub mod Digits
pub mod ExtentTables
pub mod TermSums
pub mod Terms
pub mod CellLines
