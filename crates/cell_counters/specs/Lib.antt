pub mod Accounts
pub mod BoardModels
pub mod Laws
pub mod Words
pub mod inside
