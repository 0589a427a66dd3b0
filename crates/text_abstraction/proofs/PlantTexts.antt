-- The facts that make a plant's game of a text, or refuse the text.
use Rattle.std.proofs.Common.{inl, inr, ◌≡◌, ℕ, List, refl, length}
use Rattle.std.specs.Prelude.{sum_by}
use Rattle.game_core.specs.Game.{Game, IsGraph}
use Rattle.plant_record.specs.Description.{Description}
use Rattle.successor_box.specs.Deviations.{HasNoOverflow}
use Rattle.plant_game.specs.Abstraction.{IsGameOf}
use Rattle.plant_game.proofs.EdgeCounts.{games_count_their_edges}
use Rattle.plant_text.specs.declared.plant_fault.PlantFault.{PlantFault}
use Rattle.plant_text.specs.declared.plant_fault.PlantFault.TheVariants as plants
use Rattle.plant_text.specs.PlantRefusals.{IsRefusedFor}
use Rattle.command_line.specs.declared.outcome.Refusal.{Refusal}
use Rattle.command_line.specs.declared.outcome.Failure.TheVariants.{Read, Write, Memory}
use Rattle.text_abstraction.specs.declared.stop.Stop.{Stop}
use Rattle.text_abstraction.specs.declared.stop.Stop.TheVariants.{Refused, Failed}
use Rattle.text_abstraction.specs.Causes.{of_plant, IsStopFor}
use Rattle.command_outcomes.specs.IsOutcomeFor.{IsAccepted, IsSolvable}
use Rattle.command_outcomes.specs.Stages.{IsTextRefusal}

-- a plant with a graph in memory
pub is_solvable : (p : Description) (g : Game) → HasNoOverflow p → IsGameOf p g → IsGraph g → IsSolvable p
is_solvable p g fits abstraction graph = (sum_by length g.successors, record { fits = fits; counted = games_count_their_edges p g abstraction }, graph.edges_bound)

pub IsStopFor-weaker : (P Q : Refusal → Type 0) → ((r : Refusal) → P r → Q r) → (stop : Stop) → IsStopFor P stop → IsStopFor Q stop
IsStopFor-weaker P Q more (Refused r) h = more r h
IsStopFor-weaker P Q more (Failed Read) h = h
IsStopFor-weaker P Q more (Failed Write) h = h
IsStopFor-weaker P Q more (Failed Memory) h = h

-- what a reader of plants refuses is refused
pub text_stop : (Refuses : Description → Refusal → Type 0) (bytes : List ℕ) (fault : PlantFault) → ((fault ≡ plants.Memory → ⊥) → IsRefusedFor bytes fault) → IsStopFor (IsTextRefusal Refuses bytes) (of_plant fault)
text_stop Refuses bytes (plants.Malformed line) refused = inl (inl (line, refl, refused (λ e. cc)))
text_stop Refuses bytes (plants.Limit what) refused = inl (inr (what, refl, refused (λ e. cc)))
text_stop Refuses bytes plants.Memory refused = tt

-- what refuses the plant refuses its text
pub plant_stop : (Refuses : Description → Refusal → Type 0) (bytes : List ℕ) (p : Description) (stop : Stop) → IsAccepted bytes p → IsStopFor (Refuses p) stop → IsStopFor (IsTextRefusal Refuses bytes) stop
plant_stop Refuses bytes p stop accepted = IsStopFor-weaker (Refuses p) (IsTextRefusal Refuses bytes) (λ r h. inr (p, accepted, h)) stop
