pub mod Traces
pub mod IsOutcomeFor
pub mod OutcomeLaws
pub mod Stages
