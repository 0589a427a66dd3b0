-- Why no plant is read after the first line of a text. No public clause names this.
use Rattle.std.specs.Prelude.{◌≡◌, ℕ, suc, List}
use Rattle.plant_text.specs.declared.plant_fault.PlantFault.{PlantFault}
use Rattle.plant_text.specs.declared.plant_fault.PlantFault.TheVariants as front
use Rattle.plant_text.specs.CanonicalFronts.{IsFrontRefusedFor}
use Rattle.controller_table.specs.declared.text_fault.TextFault.{TextFault}
use Rattle.controller_table.specs.declared.text_fault.TextFault.TheVariants as faults

-- why no plant is read after the first line: a line is one further than after it
abbrev pub IsPlantRefused : List ℕ → TextFault → Type 0
IsPlantRefused rest (faults.Malformed n) = (line : ℕ) × (n ≡ suc line) × IsFrontRefusedFor rest (front.Malformed line)
IsPlantRefused rest (faults.Limit what) = IsFrontRefusedFor rest (front.Limit what)
IsPlantRefused rest faults.Turns = ⊥
IsPlantRefused rest faults.Memory = Unit {0}

-- the fault of a text whose plant has this fault: want of memory is want of memory
abbrev pub fault_of_front : PlantFault → TextFault
fault_of_front (front.Malformed line) = faults.Malformed (suc line)
fault_of_front (front.Limit what) = faults.Limit what
fault_of_front front.Memory = faults.Memory
