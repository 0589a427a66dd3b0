pub mod Sweeps
pub mod Laws
pub mod inside
