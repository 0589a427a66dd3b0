pub mod Runs
pub mod RunText
pub mod Laws
pub mod inside
