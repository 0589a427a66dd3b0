-- What only proofs name.
pub mod Search
pub mod Falling
pub mod SmallGames
pub mod Remarks
