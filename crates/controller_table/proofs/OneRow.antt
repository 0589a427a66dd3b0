-- Each row of a table fits its plant.
use Rattle.std.proofs.Common.{◌≡◌, ℕ, ◌<◌, ◌≤◌, List, Option, Some, None, IfSome, subst, arith}
use Rattle.game_core.specs.declared.game.Row.{Row}
use Rattle.game_core.specs.Solution.{row_of}
use Rattle.game_core.proofs.Rows.{below_from_row}
use Rattle.grid_quantiser.specs.Axes.{cells_of}
use Rattle.plant_record.specs.declared.aims.GoalKind.{GoalKind}
use Rattle.plant_record.specs.declared.aims.GoalKind.TheVariants.{Reach}
use Rattle.plant_record.specs.Description.{Description, axes_of}
use Rattle.row_reading.specs.RowsTexts.{IsRowWithin}
use Rattle.controller_table.specs.TableText.{written_version}
use Rattle.controller_table.specs.TextKinds.{rules_of, most_rank_of}
use Rattle.controller_table.specs.Tables.{RowsFit}

module _ (p : Description) (rows : List (Option Row)) (h : RowsFit p rows) (c : ℕ) (row : Row) (e : row_of rows c ≡ Some row) where
  pub row_fits : IsRowWithin (rules_of written_version p) row
  row_fits = subst (λ o. IfSome o (IsRowWithin (rules_of written_version p))) e (h.each c None (below_from_row rows c row e))

  -- a rank is below the number of cells, where the targets are to be reached
  pub rank_below_cells : p.goal ≡ Reach → row.rank < cells_of (axes_of p)
  rank_below_cells goal =
      let most = subst (λ (g : GoalKind). row.rank ≤ most_rank_of g (cells_of (axes_of p))) goal row_fits.most in
      omega (arith, most, below_from_row rows c row e, h.one_each)
