use Rattle.controller_table.specs.declared.text_kind.TextKind.TheVariants.{Table}
use Rattle.controller_table.proofs.table_reader.take_version.Goals as goal

pub returns-in_err-kind : goal.returns-in_err-kind
returns-in_err-kind c = rw c.from_residual.ensures (λ y h. c.in_err-kind.ensures (Table y.0, y.1) h)
