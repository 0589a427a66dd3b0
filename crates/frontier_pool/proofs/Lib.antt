pub mod Sums
pub mod Steps
pub mod Gains
pub mod Lists
pub mod Locals
pub mod Swept
