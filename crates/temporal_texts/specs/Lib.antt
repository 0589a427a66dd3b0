pub mod StayText
pub mod StayRefusals
pub mod Settles
pub mod PatrolText
pub mod PatrolRefusals
pub mod Patrols
pub mod TextTrajectories
pub mod Laws
