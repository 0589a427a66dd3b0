-- What proofs of the crates above cite.
pub use Rattle.command_line.proofs.Words.{one_command}
