pub mod Judges
pub mod Verdicts
pub mod inside
