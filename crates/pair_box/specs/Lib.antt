pub mod Packed
pub mod PlantBoxes
pub mod Sums
pub mod inside
