pub mod Division
pub mod Distances
pub mod Slopes
pub mod CurveDistances
pub mod Moves
pub mod Depending
pub mod Laws
