-- what only private clauses and proofs name
pub mod ReachRounds
pub mod ReachSteps
pub mod ReachInvariant
