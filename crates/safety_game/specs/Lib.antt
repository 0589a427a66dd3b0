pub mod KeepBoards
pub mod KeepReckoned
pub mod Kept
pub mod inside
