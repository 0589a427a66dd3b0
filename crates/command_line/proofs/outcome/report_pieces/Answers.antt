use Rattle.std.proofs.Common.{refl}
use Rattle.run_devices.proofs.Laws.{reports_by}
use Rattle.command_line.proofs.outcome.report_pieces.Goals as goal

pub returns : goal.returns
returns g c = reports_by c.write_pieces.result _ _ _ refl c.write_pieces.ensures.whole c.write_pieces.ensures.part
