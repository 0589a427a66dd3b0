-- The table, read back from its bytes, keeps the plant off its obstacles for ever.
-- No solver and no game occurs here.
use Rattle.std.specs.Prelude.{ℕ, ℤ, List, [], ◌∷◌}
use Rattle.std.specs.List.{All}
use Rattle.plant_record.specs.Description.{Description}
use Rattle.plant_record.specs.Steps.{step_of, IsNoise}
use Rattle.controller_table.specs.Choice.{IsChoice, HasRank}
use Rattle.plant_record.specs.States.{IsClear}

-- the bytes are a table in which the state's cell has a row
abbrev pub HasSomeRow : List ℕ → List ℤ → Type 0
HasSomeRow bytes x = (rank : ℕ) × HasRank bytes x rank

-- from a state the table keeps the plant in cells with rows, whatever these noises are, past no obstacle
abbrev pub Remains : Description → List ℕ → List ℤ → List (List ℤ) → Type 0
Remains p bytes x [] = IsClear p x × HasSomeRow bytes x
Remains p bytes x (w ∷ ws) = IsClear p x × HasSomeRow bytes x × ((u : ℕ) × IsChoice bytes x u × Remains p bytes (step_of p x u w) ws)

-- from every state whose cell has a row, under every noises in range, however many
abbrev pub Stays : Description → List ℕ → Type 0
Stays p bytes = (x : List ℤ) (ws : List (List ℤ)) → HasSomeRow bytes x → All (IsNoise p.noises) ws → Remains p bytes x ws
