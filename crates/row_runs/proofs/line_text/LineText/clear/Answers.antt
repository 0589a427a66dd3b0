use Rattle.std.proofs.Common.{◌≤◌, length, ◌∙◌, arith, length-drop}
use Rattle.std.proofs.Math.ListN.{drop_of_length-le}
use Rattle.row_runs.proofs.line_text.LineText.clear.Goals as goal

pub returns-clause-text : goal.returns-clause-text
returns-clause-text c = let whole : length c.self.inside.bytes ≤ 320 = omega arith in drop_of_length-le c.self.inside.bytes whole

pub returns-clause-length : goal.returns-clause-length
returns-clause-length c = length-drop 320 c.self.inside.bytes ∙ omega arith
