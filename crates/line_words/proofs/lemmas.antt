-- Lemmas that several proofs use.
pub mod Booleans
pub mod FirstTokens
pub mod NumberBytes
pub mod NumberWords
pub mod OneScan
pub mod Positions
pub mod PutTogether
pub mod RefusalsPassOn
pub mod Spelling
pub mod WhereCut
