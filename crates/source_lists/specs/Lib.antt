pub mod Fans
pub mod Shapes
pub mod KnownShapes
pub mod SourceLists
pub mod inside
