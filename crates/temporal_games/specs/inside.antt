-- What only private clauses and proofs name.
pub mod StayMarks
pub mod PatrolSearch
pub mod BestRows
