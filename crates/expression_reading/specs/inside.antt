-- What only private clauses and proofs name.
pub mod ExpressionReading
