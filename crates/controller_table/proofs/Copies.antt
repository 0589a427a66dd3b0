-- What is read back of a plant's text.
use Rattle.std.proofs.Common.{◌≡◌, ℕ, ◌≤◌, List, length, sym, ap, subst, ◌∙◌, arith}
use Rattle.std.proofs.lemmas.List.{take_all}
use Rattle.plant_text.specs.declared.plant_fault.PlantFault.{PlantFault}
use Rattle.plant_record.specs.Description.{Description}
use Rattle.plant_record.specs.Limits.{IsWithinLimits}
use Rattle.plant_writing.specs.CanonicalText.{text_of}
use Rattle.plant_text.specs.CanonicalFronts.{IsFront, IsFrontRefusedFor}
use Rattle.plant_text.proofs.lemmas.CanonicalFronts.{one_front, no_front_is_refused}
use Rattle.controller_table.proofs.PlantLength.{plant_bytes, plant_length}

module _ (p : Description) (within : IsWithinLimits p) (text : List ℕ) (is : text ≡ text_of p) where
  own_front : IsFront text p (length text)
  own_front = record { plant = within.plant; within = omega arith; text = take_all (length text) text (omega arith) ∙ is }

  pub short_text : length text ≤ plant_bytes
  short_text = subst (λ (n : ℕ). n ≤ plant_bytes) (ap length (sym is)) (plant_length p within.plant)

  pub same_plant : (q : Description) (count : ℕ) → IsFront text q count → q ≡ p
  same_plant q count front = (one_front text q p count (length text) front own_front).0

  pub not_refused : (fault : PlantFault) → IsFrontRefusedFor text fault → ⊥
  not_refused fault refused = no_front_is_refused text p (length text) fault own_front within refused
