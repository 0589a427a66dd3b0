use Rattle.std.proofs.Common.{◌≡◌, ◌++◌, length}
use Rattle.plant_record.specs.Parts.{variable_names}
use Rattle.line_words.specs.LineTokens.{tokens_in}
use Rattle.expression_reading.specs.TokenKinds.{kinds_among}
use Rattle.plant_reading.proofs.equations.parse_kinds.Given as goal

abbrev pub invariant-loop-token : goal.invariant-loop-token
invariant-loop-token l = l.kinds.items ++ kinds_among (variable_names l.variables) (tokens_in l.rest) ≡ kinds_among (variable_names l.variables) (tokens_in l.bytes)

abbrev pub decreases-loop-token : goal.decreases-loop-token
decreases-loop-token l = length l.rest
