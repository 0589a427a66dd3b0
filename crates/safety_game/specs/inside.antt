-- what only private clauses and proofs name
pub mod KeepRounds
pub mod KeepSteps
pub mod KeepInvariant
pub mod SmallKeepGames
