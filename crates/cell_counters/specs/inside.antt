-- what only private clauses and proofs name
pub mod BoardProtocol
