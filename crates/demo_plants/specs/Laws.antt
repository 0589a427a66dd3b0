-- What holds of every demo plant.
use Rattle.std.specs.Prelude.{◌≡◌, ℕ, ◌*◌, ◌<◌, ◌≤◌, List}
use Rattle.grid_quantiser.specs.Axes.{cells_of}
use Rattle.plant_record.specs.declared.aims.GoalKind.TheVariants.{Reach}
use Rattle.plant_record.specs.Description.{axes_of}
use Rattle.plant_record.specs.Limits.{IsWithinLimits}
use Rattle.plant_writing.specs.CanonicalText.{text_of}
use Rattle.plant_text.specs.Grammar.{Spells}
use Rattle.plant_text.specs.PlantRefusals.{IsShort}
use Rattle.successor_box.specs.Deviations.{HasNoOverflow}
use Rattle.pair_box.specs.PlantBoxes.{pairs_of_plant}
use Rattle.plant_game.specs.Abstraction.{AreEdges}
use Rattle.command_line.specs.Command.{IsDemoNumber}
use Rattle.demo_plants.specs.Demo.{demo_plant_of, demo_text, IsDemoLine}
use Rattle.base.specs.declared.limits.TheConstants.{EDGES_LIMIT}

-- A demo plant is within the limits: it has 1,200 n cells, and 6,000 n pairs of a cell and an input vector.
pub record IsOfDemoSize (n : ℕ) : Type 0 where
  pub limits : IsWithinLimits (demo_plant_of n)
  pub cells : cells_of (axes_of (demo_plant_of n)) ≡ 1200 * n
  pub pairs : pairs_of_plant (demo_plant_of n) ≡ 6000 * n

-- each demo plant has its size, within the limits
abbrev pub DemoPlantsAreWithinLimits : Type 0
DemoPlantsAreWithinLimits = (n : ℕ) → IsDemoNumber n → IsOfDemoSize n

-- The text of a demo plant is its canonical text, spells it, and is short.
pub record IsTextOfDemo (n : ℕ) : Type 0 where
  pub canonical : demo_text n ≡ text_of (demo_plant_of n)
  pub spells : Spells (demo_text n) (demo_plant_of n)
  pub short : IsShort (demo_text n)

-- each demo plant's text spells it
abbrev pub DemoTextsSpell : Type 0
DemoTextsSpell = (n : ℕ) → IsDemoNumber n → IsTextOfDemo n

-- no equation of a demo plant overflows
abbrev pub DemoPlantsHaveNoOverflow : Type 0
DemoPlantsHaveNoOverflow = (n : ℕ) → IsDemoNumber n → HasNoOverflow (demo_plant_of n)

-- a demo plant has at most nine edges for each of its 6,000 n pairs
abbrev pub DemoPlantsHaveFewEdges : Type 0
DemoPlantsHaveFewEdges = (n m : ℕ) → IsDemoNumber n → AreEdges (demo_plant_of n) m → m ≤ 54000 * n

-- A demo plant is to reach its target, and nothing refuses it.
pub record IsSolvableDemo (n : ℕ) : Type 0 where
  pub goal : (demo_plant_of n).goal ≡ Reach
  pub limits : IsWithinLimits (demo_plant_of n)
  pub no_overflow : HasNoOverflow (demo_plant_of n)
  pub edges : (m : ℕ) → AreEdges (demo_plant_of n) m → EDGES_LIMIT < m → ⊥

-- each demo plant can be solved
abbrev pub DemoPlantsAreSolvable : Type 0
DemoPlantsAreSolvable = (n : ℕ) → IsDemoNumber n → IsSolvableDemo n

-- a demo plant has one line
abbrev pub OneDemoLine : Type 0
OneDemoLine = (n : ℕ) (text other : List ℕ) → IsDemoNumber n → IsDemoLine n text → IsDemoLine n other → text ≡ other
