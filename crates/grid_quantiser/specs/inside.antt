pub mod Storage
pub mod Restored
pub mod Spots
pub mod Overlaps
pub mod AxisQuantisers
pub mod SegmentFields
