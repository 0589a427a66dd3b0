use Rattle.row_reading.specs.inside.ReadTurns.{IsCountAt, IsHeadAt}
use Rattle.row_reading.specs.declared.row_rules.TurnHead.TheVariants.{Numbered}
use Rattle.row_reading.proofs.TurnHeads.{finds_as, to_head, from_head}
use Rattle.row_reading.proofs.turn_reader.take_head.Goals as goal

pub returns-in_ok-rest-in-Numbered : goal.returns-in_ok-rest-in-Numbered
returns-in_ok-rest-in-Numbered c =
    let turn = c.args.turn in
    let bytes = c.args.bytes.now in
    let rest = c.in_ok-rest-in-Numbered.rest.now in
    let number = c.in_ok-rest-in-Numbered.ensures in
    rw c.in-Numbered.is
    (finds_as _ (IsCountAt c.args.most rest) (IsHeadAt Numbered turn c.args.most bytes) (to_head turn c.args.most bytes rest number) (from_head turn c.args.most bytes rest number) c.take_count-in-Numbered.result c.take_count-in-Numbered.ensures)
