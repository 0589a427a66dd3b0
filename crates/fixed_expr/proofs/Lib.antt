pub mod LaneSteps
pub mod Narrowness
pub mod Values
pub mod ShiftedValues
pub mod Pieces
pub mod PointsPassed
pub mod Laws
pub mod EachNode
