pub mod Statements
pub mod StatementsRead
pub mod inside
