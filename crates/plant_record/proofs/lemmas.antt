-- Lemmas that several proofs use.
pub mod Axes
pub mod ValueIndices
pub mod InputVectors
pub mod LimitEnds
pub mod Limits
pub mod ListElements
pub mod NextPoints
pub mod Numbers
pub mod OrderedBoxes
pub mod SoundPlants
pub mod VariableValues
