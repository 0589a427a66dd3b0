-- What holds of every list of rows and of its runs: for the proofs of the crates above.
pub use Rattle.row_runs.proofs.Encoding.{runs_encode, forward}
pub use Rattle.row_runs.proofs.Uniqueness.{one_list}
pub use Rattle.row_runs.proofs.MoreRuns.{one_more}
pub use Rattle.row_runs.proofs.Uniqueness.{differ}
