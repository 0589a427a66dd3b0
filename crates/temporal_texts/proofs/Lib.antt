pub mod FewTurns
pub mod StayRows
pub mod Trajectories
