pub mod Settling
pub mod FittingStayRows
pub mod StayLaws
pub mod Patrolling
pub mod FittingPatrolRows
pub mod PatrolLaws
