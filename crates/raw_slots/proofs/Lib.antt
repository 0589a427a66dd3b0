pub mod Crosses
pub mod FilledParts
pub mod Memory
pub mod Sharing
pub mod Stretches
pub mod Written
