-- What only private clauses and proofs name.
pub mod RunReading
pub mod ReadRows
pub mod ReadTurns
