use Rattle.std.proofs.Common.{List, Option, ap, ◌∙◌}
use Rattle.game_core.specs.declared.game.Row.{Row}
use Rattle.controller_table.specs.declared.text_kind.TextKind.TheVariants.{Table}
use Rattle.controller_table.specs.TableText.{written_version}
use Rattle.controller_table.specs.KindTexts.{rows_text}
use Rattle.controller_table.proofs.table_writer.TableWriter.new.Goals as goal

pub returns : goal.returns
returns c =
    c.in_ok-text.ensures ∙ ap (λ (turns : List (List (Option Row))). rows_text (Table written_version) c.args.p.now turns) c.from_ref.ensures.value
