-- what only private clauses and proofs name
pub mod ClaimProtocol
pub mod Gains
pub mod Members
