pub mod Nested
pub mod Joined
pub mod Combined
pub mod LaneProgress
