use Rattle.std.proofs.Common.{None, arith}
use Rattle.std.proofs.lemmas.List.{ext_get_or}
use Rattle.controller_table.proofs.table_copy.copy_answer.Goals as goal

pub returns : goal.returns
returns c =
    let size = c.loop-cell.invariant.size in
    ext_get_or None c.loop-cell.copy c.args.answer.now size (λ i lt. c.loop-cell.invariant.same i (omega (arith, lt, size, c.loop-cell-test.false, c.loop-cell.auto.cell-end, c.cells-cells.ensures)))
