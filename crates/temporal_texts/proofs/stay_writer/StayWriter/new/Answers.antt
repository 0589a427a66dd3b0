use Rattle.std.proofs.Common.{List, Option, ap, ◌∙◌}
use Rattle.game_core.specs.declared.game.Row.{Row}
use Rattle.controller_table.specs.declared.text_kind.TextKind.TheVariants.{Stay}
use Rattle.controller_table.specs.KindTexts.{rows_text}
use Rattle.temporal_texts.proofs.stay_writer.StayWriter.new.Goals as goal

pub returns : goal.returns
returns c = c.in_ok-text.ensures ∙ ap (λ (turns : List (List (Option Row))). rows_text Stay c.args.p.now turns) c.from_ref.ensures.value
