-- What only private clauses and proofs name.
pub mod Padded
pub mod GameParts
pub mod Findings
