use Rattle.std.proofs.Common.{◌∙◌}
use Rattle.command_line.proofs.Spellings.{parsed_number}
use Rattle.command_line.proofs.command.parsed.Goals as goal

pub returns : goal.returns
returns c = λ n lt is. c.ok.ensures.value ∙ parsed_number c.args.word.now n c.parse.result c.parse.ensures.value.0 lt is
