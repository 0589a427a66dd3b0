pub mod Deviation
pub mod inside
