pub mod SuccessorBoxes
pub mod Deviations
pub mod PairExtents
pub mod CellLines
pub mod AdditiveInputs
pub mod Laws
pub mod inside
