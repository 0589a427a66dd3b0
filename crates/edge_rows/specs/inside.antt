-- What only private clauses and proofs name.
pub mod FillFields
pub mod Layout
pub mod RowsFields
pub mod Slices
