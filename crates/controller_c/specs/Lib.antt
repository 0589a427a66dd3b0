pub mod Ownership
pub mod inside
