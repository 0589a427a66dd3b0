-- How far a text is read. No public clause names this.
use Rattle.std.specs.Prelude.{◌≡◌, ℕ, suc, ◌+◌, ◌≤◌, List, length}
use Rattle.line_words.specs.Lines.{lines_of}
use Rattle.text_pieces.specs.Steps.{IsRead}
use Rattle.plant_text.specs.Grammar.{PartialPlant, nothing_yet, LineStep}
use Rattle.plant_text.specs.inside.PartialPlantRules.{KeepsRules}

-- The lines before the rest spell a part, and the next line has this number.
pub record IsReadUpTo (bytes rest : List ℕ) (number : ℕ) (q : PartialPlant) : Type 0 where
  pub pieces : List (List (List ℕ))
  pub read : IsRead LineStep nothing_yet (lines_of bytes) pieces q (lines_of rest)
  pub rules : KeepsRules q
  pub numbered : number ≡ suc (length pieces)
  pub few : length pieces + length rest ≤ length bytes
