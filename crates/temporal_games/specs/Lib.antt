pub mod inside
pub mod Held
pub mod Stay
pub mod Visits
pub mod Patrol
