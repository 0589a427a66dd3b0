-- The rows of a solution fit their plant.
use Rattle.std.proofs.Common.{◌≡◌, ℕ, zero, suc, ◌<◌, ◌≤◌, Option, Some, None, refl, sym, subst, ◌∙◌, arith}
use Rattle.std.specs.Prelude.{IfSome}
use Rattle.std.proofs.lemmas.List.Elements.{All-from_get_or}
use Rattle.game_core.specs.declared.game.Row.{Row}
use Rattle.game_core.specs.Game.{Game}
use Rattle.game_core.specs.Keep.{IsKeepRow}
use Rattle.game_core.specs.Solution.{row_of, IsReachRow, IsChosenInput, RanksAreBelowTheCells}
use Rattle.grid_quantiser.specs.Axes.{cells_of}
use Rattle.plant_record.specs.declared.aims.GoalKind.{GoalKind}
use Rattle.plant_record.specs.Description.{axes_of}
use Rattle.row_reading.specs.RowsTexts.{Determines, IsRowWithin}
use Rattle.controller_table.specs.TableText.{format_of, written_version}
use Rattle.controller_table.specs.TextKinds.{most_rank_of, rules_of}
use Rattle.controller_table.specs.Laws.{ReachSolutionsFit, KeepSolutionsFit}

input_below : (g : Game) (c rank u : ℕ) → 1 ≤ g.inputs → IsChosenInput g c rank u → u < g.inputs
input_below g c zero u some h = omega (arith, h)
input_below g c (suc k) u some h = h.0.0.0

nothing_applied : (g : Game) (c rank u : ℕ) → IsChosenInput g c rank u → rank ≡ 0 → u ≡ 0
nothing_applied g c zero u h e = h
nothing_applied g c (suc k) u h e = absurd (omega (arith, e))

pub reach_fits : RanksAreBelowTheCells → ReachSolutionsFit
reach_fits ranks p g rows goal a h = record {
  one_each = h.one_each ∙ a.cells;
  each = All-from_get_or (λ row. IfSome row (IsRowWithin (rules_of written_version p))) rows None (λ c lt. let n = h.one_each in fits c (row_of rows c) refl (h.each c (omega (arith, lt, n))));
}
  where
    fits : (c : ℕ) (o : Option Row) → row_of rows c ≡ o → IsReachRow g c o → IfSome o (IsRowWithin (rules_of written_version p))
    fits c None e r = tt
    fits c (Some row) e r = record {
      told = subst (λ (k : GoalKind). Determines (format_of k) row) (sym goal) (nothing_applied g c row.rank row.input r.1);
      least = omega arith;
      most = subst (λ (k : GoalKind). row.rank ≤ most_rank_of k (cells_of (axes_of p))) (sym goal) (let below = ranks g rows a.graph.game h c row e in omega (arith, below, a.cells));
      input = subst (λ (n : ℕ). row.input < n) a.inputs (input_below g c row.rank row.input a.graph.some_input r.1);
    }

pub keep_fits : KeepSolutionsFit
keep_fits p g rows goal a h = record {
  one_each = h.one_each ∙ a.cells;
  each = All-from_get_or (λ row. IfSome row (IsRowWithin (rules_of written_version p))) rows None (λ c lt. let n = h.one_each in fits c (row_of rows c) (h.each c (omega (arith, lt, n))));
}
  where
    fits : (c : ℕ) (o : Option Row) → IsKeepRow g c o → IfSome o (IsRowWithin (rules_of written_version p))
    fits c None r = tt
    fits c (Some row) r = record {
      told = subst (λ (k : GoalKind). Determines (format_of k) row) (sym goal) r.rank;
      least = omega arith;
      most = let none = r.rank in omega (arith, none);
      input = subst (λ (n : ℕ). row.input < n) a.inputs r.leads.0.0;
    }
