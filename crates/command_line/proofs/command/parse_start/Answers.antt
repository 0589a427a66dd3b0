use Rattle.std.proofs.Common.{[], ◌∙◌}
use Rattle.command_line.proofs.Words.{where_none}
use Rattle.command_line.proofs.Spellings.{no_spelling}
use Rattle.command_line.proofs.command.parse_start.Goals as goal

pub returns-in_err-parse_number-clause-none : goal.returns-in_err-parse_number-clause-none
returns-in_err-parse_number-clause-none c =
    where_none c.from_residual.result _ (no_spelling c.args.arguments.now c.loop-word.word-index (record { ref_ptr = (0, 0); now = [] }) c.loop-word-test.true (λ z few is. c.in_err-parse_number.ensures z (few, c.as_bytes.ensures.value ∙ is)))
