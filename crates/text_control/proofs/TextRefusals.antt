-- One reason, never a text and refused, never neither: by the text as which bytes begin.
use Rattle.std.proofs.Common.{◌≡◌, ℕ, List, ◌++◌, Option, refl, sym, ap, subst, ◌∙◌, append_assoc}
use Rattle.game_core.specs.declared.game.Row.{Row}
use Rattle.plant_record.specs.Description.{Description}
use Rattle.plant_writing.specs.CanonicalText.{text_of}
use Rattle.row_runs.specs.declared.run.TableVersion.TheVariants.{First}
use Rattle.controller_table.specs.declared.text_fault.TextFault.{TextFault}
use Rattle.controller_table.specs.declared.text_kind.TextKind.{TextKind}
use Rattle.controller_table.specs.declared.text_kind.TextKind.TheVariants.{Table, Stay, Patrol}
use Rattle.controller_table.specs.TextKinds.{first_line}
use Rattle.controller_table.specs.KindTexts.{IsTextOf}
use Rattle.controller_table.specs.HeadedTexts.{AnyTable, Only, BeginsAs}
use Rattle.controller_table.proofs.HeadedLaws as headed
use Rattle.controller_table.proofs.HeadedLaws.{after_plant}
use Rattle.text_control.specs.Texts.{TextModel, control_fault, IsRefusedAs}
use Rattle.text_control.specs.Laws.{ReadTextsTell, OneTextRefusal, NoBytesAreBoth, NoBytesAreNeither}
use Rattle.text_control.proofs.RefusedTexts.{one_beginning}

pub read_texts_tell : ReadTextsTell
read_texts_tell bytes t read = read.0

-- a text begins with the first line of its kind
begins : (kind : TextKind) (bytes : List ℕ) (p : Description) (turns : List (List (Option Row))) → IsTextOf kind bytes p turns → BeginsAs kind bytes
begins kind bytes p turns t = (text_of p ++ after_plant kind p turns, t.text ∙ append_assoc (first_line kind) (text_of p) (after_plant kind p turns))

module _ (bytes : List ℕ) where
  -- what is refused is refused as the text that it begins as
  refused_as_begun : (k l : TextKind) (f : TextFault) → BeginsAs l bytes → IsRefusedAs k bytes f → IsRefusedAs l bytes f
  refused_as_begun (Table v) (Table w) f begun h = h
  refused_as_begun (Table v) Stay f begun h = absurd (h.0 begun)
  refused_as_begun (Table v) Patrol f begun h = absurd (h.1 begun)
  refused_as_begun Stay l f begun h = subst (λ (kind : TextKind). IsRefusedAs kind bytes f) (one_beginning Stay l bytes h.0 begun) h
  refused_as_begun Patrol l f begun h = subst (λ (kind : TextKind). IsRefusedAs kind bytes f) (one_beginning Patrol l bytes h.0 begun) h

  one_fault : (k l : TextKind) (f g : TextFault) → IsRefusedAs k bytes f → IsRefusedAs l bytes g → f ≡ g
  one_fault (Table v) (Table w) f g h m = headed.one_refusal AnyTable bytes f g h.2 m.2
  one_fault Stay (Table w) f g h m = absurd (m.0 h.0)
  one_fault Patrol (Table w) f g h m = absurd (m.1 h.0)
  one_fault k Stay f g h m = headed.one_refusal (Only Stay) bytes f g (refused_as_begun k Stay f m.0 h).1 m.1
  one_fault k Patrol f g h m = headed.one_refusal (Only Patrol) bytes f g (refused_as_begun k Patrol f m.0 h).1 m.1

  module _ (p : Description) (turns : List (List (Option Row))) (f : TextFault) where
    unrefused : (kind : TextKind) → IsTextOf kind bytes p turns → IsRefusedAs kind bytes f → ⊥
    unrefused (Table v) text h = headed.no_text_is_refused AnyTable (Table v) bytes p turns f tt text h.2
    unrefused Stay text h = headed.no_text_is_refused (Only Stay) Stay bytes p turns f refl text h.1
    unrefused Patrol text h = headed.no_text_is_refused (Only Patrol) Patrol bytes p turns f refl text h.1

-- ---- laws

pub one_text_refusal : OneTextRefusal
one_text_refusal bytes f g h k = h.2 ∙ ap control_fault (one_fault bytes h.0 k.0 h.1 k.1 h.3 k.3) ∙ sym k.2

pub no_bytes_are_both : NoBytesAreBoth
no_bytes_are_both bytes t f tells refused =
    unrefused bytes t.plant t.turns refused.1 t.kind tells (refused_as_begun bytes refused.0 t.kind refused.1 (begins t.kind bytes t.plant t.turns tells) refused.3)

-- what a text says where its first turn is due
abbrev told : TextKind → Description → List (List (Option Row)) → TextModel
told kind p turns = record { kind = kind; plant = p; turns = turns; turn = 0 }

pub no_bytes_are_neither : NoBytesAreNeither
no_bytes_are_neither bytes no_text no_refusal =
    let stay : BeginsAs Stay bytes → ⊥ = λ begun. headed.no_text_is_neither (Only Stay) bytes (λ k p turns is. no_text (told k p turns)) (λ f refused. no_refusal (control_fault f) (Stay, f, refl, (begun, refused))) in
    let patrol : BeginsAs Patrol bytes → ⊥ = λ begun. headed.no_text_is_neither (Only Patrol) bytes (λ k p turns is. no_text (told k p turns)) (λ f refused. no_refusal (control_fault f) (Patrol, f, refl, (begun, refused))) in
    headed.no_text_is_neither AnyTable bytes (λ k p turns is. no_text (told k p turns)) (λ f refused. no_refusal (control_fault f) (Table First, f, refl, (stay, patrol, refused)))
