pub mod LaneEval
pub mod inside
