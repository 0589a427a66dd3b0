pub mod Postfix
pub mod Progress
pub mod Passed
pub mod Alike
pub mod Combinations
