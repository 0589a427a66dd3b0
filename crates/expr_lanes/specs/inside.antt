-- What only private clauses and proofs name.
pub mod LaneValues
