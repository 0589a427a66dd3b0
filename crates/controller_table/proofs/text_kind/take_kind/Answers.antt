use Rattle.controller_table.proofs.TextsRead.{no_kind}
use Rattle.controller_table.proofs.text_kind.take_kind.Goals as goal

pub returns-in_err-rest : goal.returns-in_err-rest
returns-in_err-rest c = rw c.from_residual.ensures (no_kind c.args.bytes.now c.in_default.ensures c.in_default-take_first_line.ensures c.in_default-take_first_line-2.ensures c.in_err-rest.ensures)
