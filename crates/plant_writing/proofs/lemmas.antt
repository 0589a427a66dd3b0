-- Lemmas that several proofs use.
pub mod WrittenLines
