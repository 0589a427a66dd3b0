pub mod Draws
pub mod Lines
pub mod Ends
pub mod Steps
