use Rattle.std.proofs.Common.{append_assoc, append-nil}
use Rattle.command_line.proofs.outcome.report_number.Goals as goal

pub returns : goal.returns
returns g c = simp append_assoc (simp (c.as_bytes-digits.ensures.value, c.format.ensures.text, append-nil) at c.report_pieces.ensures)
