pub mod Abstraction
pub mod BoxGame
pub mod Marks
pub mod PlantSolution
pub mod Refinement
pub mod Faults
pub mod Laws
pub mod inside
