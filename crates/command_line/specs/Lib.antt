pub mod Command
pub mod LimitLines
pub mod Statuses
pub mod Ends
pub mod inside
