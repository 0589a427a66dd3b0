-- The rows of a reach table can be judged in games over its plant's cells and inputs.
use Rattle.std.proofs.Common.{◌≡◌, List, Option}
use Rattle.game_core.specs.declared.game.Row.{Row}
use Rattle.grid_quantiser.specs.Axes.{cells_of}
use Rattle.plant_record.specs.declared.aims.GoalKind.TheVariants.{Reach}
use Rattle.plant_record.specs.Description.{Description, axes_of, vectors_of}
use Rattle.controller_table.specs.Tables.{RowsFit}
use Rattle.controller_table.proofs.OneRow.{row_fits, rank_below_cells}
use Rattle.table_check.specs.Judges.{CanJudge}

pub can_judge : (p : Description) (rows : List (Option Row)) → RowsFit p rows → p.goal ≡ Reach → CanJudge rows (cells_of (axes_of p)) (vectors_of p.inputs)
can_judge p rows fit reach = record {
  one_each = fit.one_each;
  ranks = λ c row e. rank_below_cells p rows fit c row e reach;
  inputs_are = λ c row e. (row_fits p rows fit c row e).input;
}
