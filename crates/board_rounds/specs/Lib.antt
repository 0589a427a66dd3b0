pub mod Boards
pub mod Crew
pub mod Rules
pub mod Rounds
pub mod Solving
pub mod inside
