pub mod ReachBoards
pub mod ReachReckoned
pub mod Solved
pub mod inside
