pub mod LiveCauses
pub mod LiveRuns
pub mod inside
