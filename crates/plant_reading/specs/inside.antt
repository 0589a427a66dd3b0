-- What only private clauses and proofs name.
pub mod Keywords
pub mod StatementLaws
