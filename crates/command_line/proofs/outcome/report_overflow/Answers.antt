use Rattle.std.proofs.Common.{append_assoc, append-nil}
use Rattle.command_line.proofs.outcome.report_overflow.Goals as goal

pub returns : goal.returns
returns g c = simp append_assoc (simp (c.as_bytes-equation.ensures.value, c.format.ensures.text, c.as_bytes-input.ensures.value, c.format-2.ensures.text, append-nil) at c.report_pieces.ensures)
