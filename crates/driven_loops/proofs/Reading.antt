-- Status 0 says that a text was written, and such a text is read again.
use Rattle.std.specs.Prelude.{IfSome}
use Rattle.std.proofs.Common.{inl, inr, ℕ, List, [], ◌∷◌, Option, refl, subst}
use Rattle.controller_table.specs.TableText.{written_version}
use Rattle.controller_table.specs.declared.text_kind.TextKind.TheVariants as kinds
use Rattle.controller_table.proofs.TableTexts.{as_table}
use Rattle.text_control.specs.declared.control_fault.ControlFault.{ControlFault}
use Rattle.text_control.specs.Texts.{TextModel, IsReadFrom, IsNoTextFor}
use Rattle.text_control.proofs.TextRefusals.{read_texts_tell, no_bytes_are_both}
use Rattle.command_line.specs.declared.command.Command.TheVariants.{Synth, Check, Upgrade, Sim, Demo, Stay, Patrol}
use Rattle.synth_run.specs.RunClauses.{IsAnswered}
use Rattle.driven_loops.proofs.ReadBack.{says}
use Rattle.driven_loops.specs.Laws.{AnswersAreWritten, WrittenTextsAreRead}

-- what was read isn't refused
both : (text : List ℕ) (t : TextModel) → IsReadFrom text t → ((m : TextModel) × IsReadFrom text m) × ((f : ControlFault) → IsNoTextFor text f → ⊥)
both text t read = ((t, read), λ f. no_bytes_are_both text t f (read_texts_tell text t read))

pub written_texts_are_read : WrittenTextsAreRead
written_texts_are_read bytes text (inl given) =
    let table = as_table written_version text given.0 given.3.rows given.1.limits given.3.fitting given.3.text_is in
    both text (says (kinds.Table written_version) given.0 (given.3.rows ∷ [])) (table, refl)
written_texts_are_read bytes text (inr (inl given)) = both text (says kinds.Stay given.0 (given.3.rows ∷ [])) (given.3.table, refl)
written_texts_are_read bytes text (inr (inr given)) = both text (says kinds.Patrol given.0 given.3.rows) (given.3.table, refl)

pub answers_are_written : AnswersAreWritten
answers_are_written (Synth workers) told bytes out writes is answered =
    let h = subst (λ (o : Option (List ℕ)). IfSome o (λ read. IsAnswered (Synth workers) read out)) is answered in
    ((h.1.0, h.1.1.spells), (h.0, h.1, inl h.1, h.2))
answers_are_written (Stay workers) told bytes out writes is answered =
    let h = subst (λ (o : Option (List ℕ)). IfSome o (λ read. IsAnswered (Stay workers) read out)) is answered in
    ((h.1.0, h.1.1.spells), (h.0, h.1, inr (inl h.1), h.2))
answers_are_written (Patrol workers) told bytes out writes is answered =
    let h = subst (λ (o : Option (List ℕ)). IfSome o (λ read. IsAnswered (Patrol workers) read out)) is answered in
    ((h.1.0, h.1.1.spells), (h.0, h.1, inr (inr h.1), h.2))
answers_are_written Check told bytes out writes is answered = absurd writes
answers_are_written Upgrade told bytes out writes is answered = absurd writes
answers_are_written (Sim samples seed start) told bytes out writes is answered = absurd writes
answers_are_written (Demo number workers) told bytes out writes is answered = absurd writes
