pub mod Drives
pub mod Stays
pub mod Controls
pub mod RightRows
pub mod Trajectories
pub mod Laws
pub mod inside
