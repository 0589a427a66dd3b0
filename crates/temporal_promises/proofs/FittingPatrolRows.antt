-- The rows of the solution of patrol fit their plant.
use Rattle.std.proofs.Common.{◌≡◌, ℕ, ◌<◌, ◌≤◌, List, [], length, Option, Some, None, refl, ◌∙◌, subst, arith}
use Rattle.std.specs.Prelude.{IfSome}
use Rattle.std.proofs.lemmas.List.Elements.{All-from_get_or}
use Rattle.game_core.specs.declared.game.Row.{Row}
use Rattle.game_core.specs.Game.{Game}
use Rattle.game_core.specs.Solution.{row_of}
use Rattle.plant_record.specs.Description.{Description}
use Rattle.plant_game.specs.Abstraction.{IsGameOf}
use Rattle.turn_rows.specs.Targets.{IsInTarget}
use Rattle.row_reading.specs.RowsTexts.{IsRowWithin, AreRowsWithin, AreTurnsWithin}
use Rattle.controller_table.specs.declared.text_kind.TextKind.TheVariants.{Patrol}
use Rattle.controller_table.specs.TextKinds.{patrol_rules, turn_rules, HasFewTurns}
use Rattle.temporal_texts.specs.PatrolText.{patrol_text, IsPatrolText}
use Rattle.turn_rows.specs.Rows.{rows_for}
use Rattle.temporal_games.specs.Patrol.{IsPatrol}
use Rattle.temporal_games.proofs.PatrolRowLaws.{rows_are_within}
use Rattle.plant_record.specs.Limits.{IsWithinLimits}

pub patrol_rows_fit : (p : Description) (g : Game) (rows : List (List (Option Row))) → IsGameOf p g → IsPatrol g (IsInTarget p) (length p.targets) rows → AreTurnsWithin (turn_rules Patrol p) rows
patrol_rows_fit p g rows a s = record {
  one_list_each = s.one_list_each;
  each = All-from_get_or (AreRowsWithin (patrol_rules p)) rows [] (λ j lt. turn j (omega (arith, lt, s.one_list_each)));
}
  where
    fits : (j c : ℕ) → j < length p.targets → c < g.cells → (o : Option Row) → row_of (rows_for rows j) c ≡ o → IfSome o (IsRowWithin (patrol_rules p))
    fits j c lj lc None e = tt
    fits j c lj lc (Some row) e =
        let within = rows_are_within g (IsInTarget p) (length p.targets) rows a.game s j c row lj lc e in
        record { told = tt; least = within.0; most = subst (λ (n : ℕ). row.rank ≤ n) a.cells within.1; input = subst (λ (n : ℕ). row.input < n) a.inputs within.2 }

    turn : (j : ℕ) → j < length p.targets → AreRowsWithin (patrol_rules p) (rows_for rows j)
    turn j lj = record {
      one_each = s.one_row_each j lj ∙ a.cells;
      each = All-from_get_or (λ row. IfSome row (IsRowWithin (patrol_rules p))) (rows_for rows j) None (λ c lt. let n = s.one_row_each j lj in fits j c lj (omega (arith, lt, n)) (row_of (rows_for rows j) c) refl);
    }

-- the text of the solution is one
pub solution_has_patrol_text : (p : Description) (g : Game) (rows : List (List (Option Row))) → IsWithinLimits p → HasFewTurns p → IsGameOf p g → IsPatrol g (IsInTarget p) (length p.targets) rows → IsPatrolText (patrol_text p rows) p rows
solution_has_patrol_text p g rows within few game solution = record { limits = within; few = few; within = patrol_rows_fit p g rows game solution; text = refl }
