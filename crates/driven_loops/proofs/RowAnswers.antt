-- A state whose cell has a row has its rank, and where the row applies its own input each answer there is to apply values.
use Rattle.std.proofs.Common.{◌≡◌, List, Some, refl, sym, ap, ◌∙◌}
use Rattle.std.specs.Prelude.{ℤ, pos}
use Rattle.std.proofs.lemmas.Option.{none-some, same_Some}
use Rattle.game_core.specs.declared.game.Row.{Row}
use Rattle.controller_table.specs.Choice.{HasRowAt}
use Rattle.text_control.specs.declared.reply.Reply.{Reply}
use Rattle.text_control.specs.declared.reply.Reply.TheVariants.{Apply, Arrived, NoRow, WrongSizes}
use Rattle.text_control.specs.Texts.{TextModel, due_rows}
use Rattle.text_control.specs.Control.{AreSized, applied_as, IsReply, IsRank, reply_number}
use Rattle.text_control.specs.Loops.{AlwaysAnswers}
use Rattle.text_control.proofs.OneText.{text_rank}

module _ (t : TextModel) (y : List ℤ) (row : Row) (has : HasRowAt t.plant (due_rows t) y row) where
  applied : (before after : List ℤ) → applied_as t.kind t.plant.goal row ≡ Some row.input → AreSized t y before → (reply : Reply) → IsReply t y before after reply → reply_number reply ≡ pos 1
  applied before after applies sized Apply is = refl
  applied before after applies sized Arrived is = let a = is.1 in absurd (none-some row.input (sym a.none ∙ ap (applied_as t.kind t.plant.goal) (same_Some a.row row (sym a.has ∙ has)) ∙ applies))
  applied before after applies sized NoRow is = absurd (none-some row (sym is.1 ∙ has))
  applied before after applies sized WrongSizes is = absurd (is.0 sized)

  pub row_answers : applied_as t.kind t.plant.goal row ≡ Some row.input → AlwaysAnswers t y
  row_answers applies before after number sized encodes = encodes.1 ∙ applied before after applies sized encodes.0 encodes.2

  pub has_rank : IsRank t y row.rank
  has_rank = (record { row = row; has = has; is = refl }, λ bytes tells. text_rank bytes t tells y row has)
