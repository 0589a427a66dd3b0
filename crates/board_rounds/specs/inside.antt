-- what only private clauses and proofs name
pub mod FirstWords
pub mod WorkerSteps
pub mod RoundInvariant
