pub mod Laws
pub mod Spellings
pub mod MoreNumbers
pub mod Words
pub mod Shown
