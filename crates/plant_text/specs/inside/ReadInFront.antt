-- How far the front of some bytes is read. No public clause names this.
use Rattle.std.specs.Prelude.{◌≡◌, ℕ, suc, ◌+◌, ◌≤◌, List, length}
use Rattle.text_pieces.specs.Steps.{IsRead}
use Rattle.plant_text.specs.Grammar.{PartialPlant, nothing_yet}
use Rattle.plant_text.specs.CanonicalFronts.{FrontStep}
use Rattle.plant_text.specs.inside.PartialPlantRules.{KeepsRules}

-- The lines before the rest lead canonically to a part, and the next line has this number.
pub record IsReadInFront (bytes rest : List ℕ) (number : ℕ) (q : PartialPlant) : Type 0 where
  pub pieces : List (List ℕ)
  pub read : IsRead FrontStep nothing_yet bytes pieces q rest
  pub rules : KeepsRules q
  pub numbered : number ≡ suc (length pieces)
  pub few : length pieces + length rest ≤ length bytes
