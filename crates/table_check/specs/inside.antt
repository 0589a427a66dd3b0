-- What private clauses and proofs name.
pub mod Below
pub mod RightLaws
