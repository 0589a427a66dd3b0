-- What holds of every stay text: for the proofs of the crates above.
pub use Rattle.temporal_promises.proofs.FittingStayRows.{solution_has_stay_text}
pub use Rattle.temporal_promises.proofs.Settling.{stay_text_settles}
