-- Why a line was not read, told with its number, and why a text is refused: for its first refused line or for a limit.
use Rattle.std.proofs.Common.{◌≡◌, ℕ, refl, sym, ap, subst}
use Rattle.plant_record.specs.Description.{Description}
use Rattle.plant_record.specs.Limits.{IsWithinLimits, Exceeds}
use Rattle.plant_record.proofs.lemmas.Limits.{one_limit, exceeds_none}
use Rattle.line_words.specs.declared.line_fault.LineFault.{LineFault}
use Rattle.line_words.specs.declared.line_fault.LineFault.TheVariants as reading
use Rattle.plant_text.specs.declared.plant_fault.PlantFault.{PlantFault}
use Rattle.plant_text.specs.declared.plant_fault.PlantFault.TheVariants as faults

-- what is told is a reason, where the line is the first refused one if it fits nothing
pub told_reason : (Refused : PlantFault → Type 0) (fault : LineFault) (told : PlantFault) (line : ℕ) → (fault ≡ reading.Malformed → told ≡ faults.Malformed line) → (fault ≡ reading.Memory → told ≡ faults.Memory) → (fault ≡ reading.Malformed → Refused (faults.Malformed line)) → (told ≡ faults.Memory → ⊥) → Refused told
told_reason Refused reading.Malformed told line malformed memory refused other = subst Refused (sym (malformed refl)) (refused refl)
told_reason Refused reading.Memory told line malformed memory refused other = absurd (other (memory refl))

-- A text has one first refused line, or is of one plant, and never both.
pub record AreApart (IsLine : ℕ → Type 0) (IsOf : Description → Type 0) : Type 0 where
  pub one_line : (m n : ℕ) → IsLine m → IsLine n → m ≡ n
  pub one_plant : (p r : Description) → IsOf p → IsOf r → p ≡ r
  pub line_or_plant : (n : ℕ) (p : Description) → IsLine n → IsOf p → ⊥

module _ (IsLine : ℕ → Type 0) (IsOf : Description → Type 0) where
  -- the line, or the limit that the plant exceeds
  abbrev pub IsReason : PlantFault → Type 0
  IsReason (faults.Malformed n) = IsLine n
  IsReason (faults.Limit what) = (p : Description) × IsOf p × Exceeds p what
  IsReason faults.Memory = ⊥

  module _ (apart : AreApart IsLine IsOf) where
    pub one_reason : (f g : PlantFault) → IsReason f → IsReason g → f ≡ g
    one_reason (faults.Malformed m) (faults.Malformed n) h k = ap faults.Malformed (apart.one_line m n h k)
    one_reason (faults.Malformed m) (faults.Limit b) h k = absurd (apart.line_or_plant m k.0 h k.1)
    one_reason (faults.Malformed m) faults.Memory h k = absurd k
    one_reason (faults.Limit a) (faults.Malformed n) h k = absurd (apart.line_or_plant n h.0 k h.1)
    one_reason (faults.Limit a) (faults.Limit b) h k = ap faults.Limit (one_limit k.0 a b (subst (λ (p : Description). Exceeds p a) (apart.one_plant h.0 k.0 h.1 k.1) h.2) k.2)
    one_reason (faults.Limit a) faults.Memory h k = absurd k
    one_reason faults.Memory g h k = absurd h

    pub no_reason : (p : Description) (f : PlantFault) → IsOf p → IsWithinLimits p → IsReason f → ⊥
    no_reason p (faults.Malformed n) of within h = apart.line_or_plant n p h of
    no_reason p (faults.Limit what) of within h = exceeds_none p what within (subst (λ (q : Description). Exceeds q what) (apart.one_plant h.0 p h.1 of) h.2)
    no_reason p faults.Memory of within h = h
