-- The versions of plants.
use Rattle.std.specs.Prelude.{ℕ}
use Rattle.plant_record.specs.declared.version.PlantVersion.{PlantVersion}
use Rattle.plant_record.specs.declared.version.PlantVersion.TheVariants.{One, Two}

-- the number by which a text names a version
abbrev pub version_number : PlantVersion → ℕ
version_number One = 1
version_number Two = 2
