use Rattle.std.proofs.Common.{sym}
use Rattle.expression_reading.proofs.lemmas.RisingPoints.{short_rises}
use Rattle.expression_reading.proofs.points.+rises.Goals as goal

pub returns-in_default : goal.returns-in_default
returns-in_default t c = sym (short_rises c.args.points.now c.in_default.len_below)
