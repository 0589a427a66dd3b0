-- What only private clauses and proofs name.
pub mod WriterLevels
pub mod WrittenTexts
