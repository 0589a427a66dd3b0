-- How a version, the ends of a box and a goal are spelled.
use Rattle.std.specs.Prelude.{ℕ, suc, ℤ, List, [], ◌∷◌, codes}
use Rattle.std.specs.Fmt.{signed_decimal}
use Rattle.plant_record.specs.declared.aims.GoalKind.{GoalKind}
use Rattle.plant_record.specs.declared.aims.GoalKind.TheVariants.{Reach, Keep}
use Rattle.plant_record.specs.declared.version.PlantVersion.{PlantVersion}
use Rattle.plant_record.specs.declared.version.PlantVersion.TheVariants.{One, Two}

-- the word of a version
abbrev pub version_word : PlantVersion → List ℕ
version_word One = codes "1"
version_word Two = codes "2"

-- the two ends of a box in each of the first n states
abbrev pub end_words : ℕ → List ℤ → List ℤ → List (List ℕ)
end_words (suc n) (l ∷ low) (h ∷ high) = signed_decimal l ∷ signed_decimal h ∷ end_words n low high
end_words _ _ _ = []

-- the word of a goal
abbrev pub goal_word : GoalKind → List ℕ
goal_word Reach = codes "reach"
goal_word Keep = codes "keep"
