-- Lemmas that several proofs use.
pub mod OneStatement
pub mod StatementLaws
