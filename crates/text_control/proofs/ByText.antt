-- What is answered, by each text that says the same.
use Rattle.std.proofs.Common.{◌≡◌, ℕ, List, None, sym, ap, subst, ◌∙◌}
use Rattle.std.specs.Prelude.{ℤ}
use Rattle.std.proofs.lemmas.Option.{none-some, same_Some}
use Rattle.text_control.specs.declared.reply.Reply.{Reply}
use Rattle.text_control.specs.declared.reply.Reply.TheVariants.{Apply, Arrived, NoRow, WrongSizes}
use Rattle.text_control.specs.Texts.{TextModel, Tells}
use Rattle.text_control.specs.Control.{due_row, applied_as, HasArrived, HasTextRank, HasNoTextRank, AppliesNone, IsReply, IsReplyByText}
use Rattle.text_control.proofs.OneText.{applied_row, ranked_row, text_values, text_rank}

module _ (t : TextModel) (x : List ℤ) (bytes : List ℕ) (tells : Tells bytes t) where
  pub none_ranked : due_row t x ≡ None → HasNoTextRank t.kind t.turn bytes x
  none_ranked none k ranked =
      let row = ranked_row bytes t tells x k ranked in
      none-some row.0 (sym none ∙ row.1)

  none_applied : due_row t x ≡ None → AppliesNone t.kind t.turn bytes x
  none_applied none values are =
      let row = applied_row bytes t tells x values are in
      none-some row.0 (sym none ∙ row.1)

  arrived_applies_none : HasArrived t x → AppliesNone t.kind t.turn bytes x
  arrived_applies_none arrived values are =
      let row = applied_row bytes t tells x values are in
      none-some row.2.0 (sym arrived.none ∙ ap (applied_as t.kind t.plant.goal) (same_Some arrived.row row.0 (sym arrived.has ∙ row.1)) ∙ row.2.1)

pub by_text : (t : TextModel) (x before after : List ℤ) (reply : Reply) → IsReply t x before after reply → IsReplyByText t x after reply
by_text t x before after Apply is = λ bytes tells. text_values bytes t tells x after is.1.row is.1.input is.1.has is.1.applies is.1.are
by_text t x before after Arrived is = λ bytes tells. (
  subst (λ (k : ℕ). HasTextRank t.kind t.turn bytes x k) is.1.rank (text_rank bytes t tells x is.1.row is.1.has),
  arrived_applies_none t x bytes tells is.1,
)
by_text t x before after NoRow is = λ bytes tells. (none_ranked t x bytes tells is.1, none_applied t x bytes tells is.1)
by_text t x before after WrongSizes is = λ bytes tells. tt
