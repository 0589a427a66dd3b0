pub mod Slots
pub mod inside
