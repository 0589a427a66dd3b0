pub mod QuestionWords
pub mod Faults
