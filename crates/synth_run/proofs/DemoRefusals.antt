-- Nothing refuses a demo plant.
use Rattle.std.proofs.Common.{inl, inr, ◌≡◌, ℕ, refl}
use Rattle.command_line.specs.declared.outcome.Failure.TheVariants.{Read, Write, Memory}
use Rattle.text_abstraction.specs.declared.stop.Stop.{Stop}
use Rattle.text_abstraction.specs.declared.stop.Stop.TheVariants as stops
use Rattle.command_outcomes.specs.Stages.{IsPlantRefusal}
use Rattle.text_abstraction.specs.Causes.{IsStopFor, without_memory}
use Rattle.demo_plants.specs.Demo.{demo_plant_of}
use Rattle.demo_plants.specs.Laws.{IsSolvableDemo}
use Rattle.command_outcomes.proofs.Outcomes.{fits_or_not}

-- nothing refuses a demo plant, so that only want of memory keeps it from its line
pub no_refusal : (n : ℕ) → IsSolvableDemo n → (stop : Stop) → IsStopFor (IsPlantRefusal (demo_plant_of n)) stop → stop ≡ without_memory
no_refusal n s (stops.Refused r) h = absurd (elim h [
  | inl f ↦ fits_or_not (demo_plant_of n) f.0 f.1 s.no_overflow f.3
  | inr many ↦ s.edges many.1.0 many.1.1.counted many.1.2
])
no_refusal n s (stops.Failed Read) h = absurd h
no_refusal n s (stops.Failed Write) h = absurd h
no_refusal n s (stops.Failed Memory) h = refl
