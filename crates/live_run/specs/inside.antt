pub mod Sessions
pub mod Answering
pub mod LiveWorking
