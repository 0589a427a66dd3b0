-- What only private clauses and proofs name.
pub mod Additive
pub mod Area
pub mod Lines
pub mod Props
