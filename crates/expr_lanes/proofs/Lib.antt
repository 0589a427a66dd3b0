pub mod LaneValues
mod VariableLanes
