pub mod Found
pub mod Numbers
pub mod Counting
pub mod RowsTexts
pub mod TurnSteps
pub mod inside
