-- The text of a demo plant spells that plant, and no other.
use Rattle.std.proofs.Common.{◌≡◌, ℕ, List, subst}
use Rattle.plant_text.specs.declared.plant_fault.PlantFault.{PlantFault}
use Rattle.plant_record.specs.Description.{Description}
use Rattle.plant_text.specs.Grammar.{Spells}
use Rattle.plant_text.specs.PlantRefusals.{IsRefusedFor}
use Rattle.plant_text.proofs.lemmas.LinesLead.{one_plant, no_plant_text_is_refused}
use Rattle.command_line.specs.Command.{IsDemoNumber}
use Rattle.demo_plants.specs.Demo.{demo_plant_of, demo_text}
use Rattle.demo_plants.proofs.Sizes.{within_limits}
use Rattle.demo_plants.proofs.Texts.{texts_spell}

module _ (n : ℕ) (size : IsDemoNumber n) (bytes : List ℕ) (is : bytes ≡ demo_text n) where
  pub reads_back : (p : Description) → Spells bytes p → p ≡ demo_plant_of n
  reads_back p spelled = one_plant (demo_text n) p (demo_plant_of n) (subst (λ (text : List ℕ). Spells text p) is spelled) (texts_spell n size).spells

  pub never_refused : (f : PlantFault) → IsRefusedFor bytes f → ⊥
  never_refused f refused =
      let text = texts_spell n size in
      no_plant_text_is_refused (demo_text n) (demo_plant_of n) f text.spells text.short (within_limits n size).limits (subst (λ (text : List ℕ). IsRefusedFor text f) is refused)
