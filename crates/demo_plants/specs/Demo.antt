-- The demo plants: a cart on a line of 600 n positions, which the input speeds up or slows down.
use Rattle.std.specs.Prelude.{◌≡◌, ℕ, ◌+◌, ◌-◌, ◌*◌, pos, negsuc, List, [], ◌∷◌, ◌++◌, map, count_by, Option, codes}
use Rattle.std.specs.Option.{is_some}
use Rattle.std.specs.Fmt.{decimal}
use Rattle.fixed_expr.specs.Expression.{Expression, VarExpr, AddExpr, DivExpr}
use Rattle.grid_quantiser.specs.Axes.{cells_of}
use Rattle.plant_record.specs.declared.variables.StateVariable.{StateVariable}
use Rattle.plant_record.specs.declared.variables.InputVariable.{InputVariable}
use Rattle.plant_record.specs.declared.variables.NoiseVariable.{NoiseVariable}
use Rattle.plant_record.specs.declared.aims.StateBox.{StateBox}
use Rattle.plant_record.specs.declared.aims.GoalKind.TheVariants.{Reach}
use Rattle.plant_record.specs.declared.version.PlantVersion.TheVariants.{One}
use Rattle.plant_record.specs.Description.{Description, axes_of}
use Rattle.game_core.specs.declared.game.Row.{Row}
use Rattle.game_core.specs.Solution.{rank_in, greatest}
use Rattle.plant_text.specs.Grammar.{Spells}
use Rattle.pair_box.specs.PlantBoxes.{pairs_of_plant}
use Rattle.plant_game.specs.Abstraction.{AreEdges}
use Rattle.plant_game.specs.PlantSolution.{IsSolutionOf}

-- the position of the cart
abbrev pub position : ℕ → StateVariable
position n = record { name = codes "p"; low = pos 0; high = pos (600 * n - 1); width = pos 10 }

-- its speed, in fifths of a position a sample
abbrev pub speed : StateVariable
speed = record { name = codes "v"; low = negsuc 99; high = pos 99; width = pos 10 }

-- what the input adds to the speed
abbrev pub acceleration : InputVariable
acceleration = record { name = codes "a"; values = negsuc 19 ∷ negsuc 14 ∷ pos 0 ∷ pos 15 ∷ pos 20 ∷ [] }

-- what the noise adds to it
abbrev pub wind : NoiseVariable
wind = record { name = codes "w"; low = negsuc 1; high = pos 2 }

-- a range of positions at a slow speed
abbrev pub demo_target : ℕ → StateBox
demo_target n = record {
  low = pos (400 * n) ∷ negsuc 49 ∷ pos 0 ∷ pos 0 ∷ pos 0 ∷ pos 0 ∷ [];
  high = pos (560 * n - 1) ∷ pos 49 ∷ pos 0 ∷ pos 0 ∷ pos 0 ∷ pos 0 ∷ [];
}

-- twenty positions that aren't passed forwards too fast
abbrev pub fast_forwards : ℕ → StateBox
fast_forwards n = record {
  low = pos (200 * n) ∷ pos 80 ∷ pos 0 ∷ pos 0 ∷ pos 0 ∷ pos 0 ∷ [];
  high = pos (200 * n + 19) ∷ pos 99 ∷ pos 0 ∷ pos 0 ∷ pos 0 ∷ pos 0 ∷ [];
}

-- ten positions that aren't passed backwards too fast
abbrev pub fast_backwards : ℕ → StateBox
fast_backwards n = record {
  low = pos (300 * n) ∷ negsuc 99 ∷ pos 0 ∷ pos 0 ∷ pos 0 ∷ pos 0 ∷ [];
  high = pos (300 * n + 9) ∷ negsuc 80 ∷ pos 0 ∷ pos 0 ∷ pos 0 ∷ pos 0 ∷ [];
}

-- the cart moves by a fifth of its speed
abbrev pub position_step : Expression
position_step = AddExpr (VarExpr 0) (DivExpr (VarExpr 1) (pos 5))

-- its speed moves by the input and the noise
abbrev pub speed_step : Expression
speed_step = AddExpr (AddExpr (VarExpr 1) (VarExpr 2)) (VarExpr 3)

-- the n-th demo plant
unfoldable pub demo_plant_of : ℕ → Description
demo_plant_of n = record {
  version = One;
  states = position n ∷ speed ∷ [];
  inputs = acceleration ∷ [];
  noises = wind ∷ [];
  equations = position_step ∷ speed_step ∷ [];
  targets = demo_target n ∷ [];
  obstacles = fast_forwards n ∷ fast_backwards n ∷ [];
  goal = Reach;
}

-- the text of a demo plant
unfoldable pub demo_text : ℕ → List ℕ
demo_text n =
    codes "plant 1\n"
    ++ codes "state p 0 " ++ decimal (600 * n - 1) ++ codes " 10\n"
    ++ codes "state v -100 99 10\n"
    ++ codes "input a -20 -15 0 15 20\n"
    ++ codes "noise w -2 2\n"
    ++ codes "next p = p + v / 5\n"
    ++ codes "next v = v + a + w\n"
    ++ codes "target " ++ decimal (400 * n) ++ codes " " ++ decimal (560 * n - 1) ++ codes " -50 49\n"
    ++ codes "obstacle " ++ decimal (200 * n) ++ codes " " ++ decimal (200 * n + 19) ++ codes " 80 99\n"
    ++ codes "obstacle " ++ decimal (300 * n) ++ codes " " ++ decimal (300 * n + 9) ++ codes " -100 -81\n"
    ++ codes "goal reach\n"
    ++ codes "end\n"

-- the line that sums up the n-th demo plant, solved: how many cells, pairs and edges it has, how many cells have a row,
-- and the greatest rank, which is 0 where no cell has a row
abbrev pub demo_line : ℕ → Description → List (Option Row) → ℕ → List ℕ
demo_line n p rows edges =
    codes "demo " ++ decimal n
    ++ codes " cells " ++ decimal (cells_of (axes_of p))
    ++ codes " pairs " ++ decimal (pairs_of_plant p)
    ++ codes " edges " ++ decimal edges
    ++ codes " won " ++ decimal (count_by is_some rows)
    ++ codes " rank " ++ decimal (greatest (map rank_in rows))
    ++ codes "\n"

-- The line of the n-th demo plant, with the rows of its solution and the number of its edges.
pub record IsSummaryOf (n : ℕ) (p : Description) (text : List ℕ) : Type 0 where
  pub rows : List (Option Row)
  pub edges : ℕ
  pub solution : IsSolutionOf p rows
  pub counted : AreEdges p edges
  pub line : text ≡ demo_line n p rows edges

-- the line of the plant that the n-th demo text spells
abbrev pub IsDemoLine : ℕ → List ℕ → Type 0
IsDemoLine n text = (p : Description) × Spells (demo_text n) p × IsSummaryOf n p text
