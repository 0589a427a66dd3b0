pub mod Best
pub mod Unwinnable
pub mod Fitting
pub mod Verdicts
pub mod FirstWrong
