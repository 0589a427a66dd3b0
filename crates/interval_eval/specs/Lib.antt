pub mod Span
pub mod NestedAreas
pub mod LaneSpans
pub mod Laws
pub mod inside
