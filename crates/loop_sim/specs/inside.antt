pub mod Stages
pub mod StateText
