pub mod LineTokens
pub mod Lines
pub mod Names
pub mod Numbers
pub mod Separators
pub mod Tokens
pub mod WordReaders
pub mod Words
