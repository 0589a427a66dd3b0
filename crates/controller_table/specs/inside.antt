pub mod TextReading
pub mod Left
