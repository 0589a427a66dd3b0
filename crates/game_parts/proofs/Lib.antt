pub mod PaddedBoxes
pub mod PartGames
pub mod PartFindings
pub mod SummedFindings
pub mod PartSteps
