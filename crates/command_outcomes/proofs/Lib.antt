pub mod Below
pub mod Undeniable
pub mod SomeGame
pub mod Stages
pub mod Outcomes
pub mod SomeOutcome
