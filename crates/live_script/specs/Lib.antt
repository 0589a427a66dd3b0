pub mod Questions
pub mod Scripts
pub mod LiveText
pub mod ScriptRefusals
pub mod ScriptReading
pub mod Laws
pub mod inside
