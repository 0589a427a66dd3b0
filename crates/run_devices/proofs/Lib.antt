pub mod Laws
pub mod SoFar
pub mod Taking
