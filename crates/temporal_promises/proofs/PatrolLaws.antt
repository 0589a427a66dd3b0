-- What holds of every patrol text: for the proofs of the crates above.
pub use Rattle.temporal_promises.proofs.FittingPatrolRows.{solution_has_patrol_text}
pub use Rattle.temporal_promises.proofs.Patrolling.{patrol_text_patrols}
