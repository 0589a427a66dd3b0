pub mod Slopes
pub mod RowWords
pub mod WordPositions
pub mod TextReading
