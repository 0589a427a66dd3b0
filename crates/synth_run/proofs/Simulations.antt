-- The facts that make a trace, and those that keep one from being made.
use Rattle.std.proofs.Common.{◌≡◌, List, length, Option, Some, None, sym}
use Rattle.std.specs.Prelude.{ℤ, IfSome}
use Rattle.game_core.specs.declared.game.Row.{Row}
use Rattle.grid_quantiser.specs.Cells.{point_of}
use Rattle.plant_record.specs.Description.{Description}
use Rattle.controller_table.specs.Choice.{row_at}
use Rattle.command_outcomes.specs.Traces.{HasRowFor}

-- the row at a start of as many numbers as states
pub row_found : (p : Description) (rows : List (Option Row)) (start : List ℤ) (r : Option Row) → length start ≡ length p.states → r ≡ row_at p rows (point_of start) → IfSome r (λ _. HasRowFor p rows start)
row_found p rows start (Some row) same is = record { one_each = same; row = row; has = sym is }
row_found p rows start None same is = tt
