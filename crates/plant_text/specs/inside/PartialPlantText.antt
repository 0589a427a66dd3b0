-- The canonical text of a part, as far as it goes. No public clause names this.
use Rattle.std.specs.Prelude.{◌≡◌, ℕ, Bool, List, [], ◌∷◌, ◌++◌, length, Option, Some, None, codes, if◌then◌else◌}
use Rattle.std.specs.List.{flat_map}
use Rattle.plant_record.specs.declared.aims.GoalKind.{GoalKind}
use Rattle.plant_record.specs.declared.version.PlantVersion.{PlantVersion}
use Rattle.plant_record.specs.Spelling.{version_word, goal_word}
use Rattle.base.specs.Lines.{line}
use Rattle.plant_writing.specs.CanonicalText.{state_line, input_line, noise_line, equation_lines, box_line}
use Rattle.plant_text.specs.Grammar.{PartialPlant, names_in}

-- the line of the version, once it is read
abbrev pub version_text : Option PlantVersion → List ℕ
version_text None = []
version_text (Some v) = line (codes "plant" ∷ version_word v ∷ [])

-- the line of the goal, once it is read
abbrev pub goal_text : Option GoalKind → List ℕ
goal_text None = []
goal_text (Some kind) = line (codes "goal" ∷ goal_word kind ∷ [])

-- the last line, once it is read
abbrev pub end_text : Bool → List ℕ
end_text ended = if ended then line (codes "end" ∷ []) else []

-- the lines of a part in their order
abbrev pub partial_text : PartialPlant → List ℕ
partial_text q =
    version_text q.version
    ++ flat_map state_line q.states
    ++ flat_map input_line q.inputs
    ++ flat_map noise_line q.noises
    ++ equation_lines (names_in q) q.states q.equations
    ++ flat_map (box_line (codes "target") (length q.states)) q.targets
    ++ flat_map (box_line (codes "obstacle") (length q.states)) q.obstacles
    ++ goal_text q.goal
    ++ end_text q.ended

-- What stands in a part only after something else.
pub record IsOrderly (q : PartialPlant) : Type 0 where
  pub unbegun : q.version ≡ None → q.states ≡ []
  pub stateless : q.states ≡ [] → (q.inputs ≡ []) × (q.noises ≡ [])
