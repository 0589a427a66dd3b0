use Rattle.std.proofs.Common.{◌-◌, ◌/◌, ◌%◌, arith}
use Rattle.reach_avoid.proofs.Words.{row_from_word}
use Rattle.reach_avoid.proofs.reach_rule.decoded_row.Goals as goal

pub overflow_cast-result : goal.overflow_cast-result
overflow_cast-result c =
    let w = c.args.word in
    let low = c.requires (record { rank = (w - 1) / 4096; input = (w - 1) % 4096 }) (row_from_word w (omega arith) (omega (arith, c.ranges.word.fits))) in
    omega arith
