pub mod CellsFrom
pub mod Finders
pub mod inside
