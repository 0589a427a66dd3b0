-- Lemmas that several proofs use.
pub mod BoxEnds
pub mod InputValues
pub mod WordsSpellOne
