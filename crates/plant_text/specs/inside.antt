-- What only private clauses and proofs name.
pub mod CanonicalNext
pub mod DraftsInMemory
pub mod FormedEquations
pub mod PartialPlantRules
pub mod PartialPlantText
pub mod ReadInFront
pub mod ReadUpTo
