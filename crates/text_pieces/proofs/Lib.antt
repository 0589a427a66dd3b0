pub mod Laws
pub mod Undeniable
pub mod Copies
