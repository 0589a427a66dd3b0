pub mod Demo
pub mod Laws
