pub mod Targets
pub mod Rows
