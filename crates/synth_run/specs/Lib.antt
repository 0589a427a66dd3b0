pub mod Sources
pub mod Headline
pub mod Played
pub mod RunClauses
pub mod Laws
pub mod inside
