pub mod GameParts
pub mod inside
