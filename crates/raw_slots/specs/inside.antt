-- What only private clauses and proofs name.
pub mod BlockParts
pub mod Chunks
pub mod Ownership
