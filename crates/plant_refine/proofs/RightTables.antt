-- A right table drives its plant: by induction on the noises.
use Rattle.std.proofs.Common.{◌≡◌, ℕ, zero, suc, ◌≤◌, List, [], ◌∷◌, length, Option, Some, option_and_then, refl, ap, subst, ◌∙◌, arith, inl, inr}
use Rattle.std.specs.Prelude.{ℤ}
use Rattle.std.specs.List.{AllByRecursion}
use Rattle.std.proofs.lemmas.List.Elements.{recursion_from_All}
use Rattle.game_core.specs.declared.game.Row.{Row}
use Rattle.game_core.specs.Game.{Game}
use Rattle.plant_record.specs.declared.aims.GoalKind.{GoalKind}
use Rattle.plant_record.specs.declared.aims.GoalKind.TheVariants.{Reach, Keep}
use Rattle.plant_record.specs.Description.{Description}
use Rattle.plant_record.specs.Steps.{step_of, IsNoise}
use Rattle.controller_table.specs.Choice.{applied, HasRowAt, HasRank}
use Rattle.controller_table.specs.Tables.{IsTable}
use Rattle.controller_table.proofs.OneTable.{one_table}
use Rattle.controller_table.proofs.Applied.{applies_above_zero}
use Rattle.plant_refine.specs.Drives.{Comes, Drives}
use Rattle.plant_refine.specs.Laws.{RightTablesDrivePlants}
use Rattle.plant_refine.proofs.Down.{guides}
use Rattle.plant_refine.proofs.Leading.{Guides, clear_at, arrived_at, next_row}

applies : (goal : GoalKind) (k u : ℕ) → applied goal (record { rank = suc k; input = u }) ≡ Some u
applies Reach k u = applies_above_zero (record { rank = suc k; input = u }) (omega arith)
applies Keep k u = refl

-- the row that the bytes have at a state is that of the table
pub row_of_table : (bytes : List ℕ) (p : Description) (rows : List (Option Row)) (x : List ℤ) (k : ℕ) → IsTable bytes p rows → HasRank bytes x k → (row : Row) × HasRowAt p rows x row × (row.rank ≡ k)
row_of_table bytes p rows x k table h =
    let same = one_table bytes h.plant p h.rows rows h.table table in
    let has : HasRowAt p h.rows x h.row = subst (λ (q : Description). HasRowAt q h.rows x h.row) same.0 h.has in
    (h.row, subst (λ (r : List (Option Row)). HasRowAt p r x h.row) same.1 has, h.ranked)

module _ {p : Description} {g : Game} {rows : List (Option Row)} (h : Guides p g rows) (bytes : List ℕ) (table : IsTable bytes p rows) where
  -- from a state with a row, under at least so many noises as its rank
  comes : (ws : List (List ℤ)) (x : List ℤ) (rank u : ℕ) → HasRowAt p rows x (record { rank = rank; input = u }) → rank ≤ length ws → AllByRecursion (IsNoise p.noises) ws → Comes p bytes x ws
  comes [] x zero u has enough noises = (clear_at h x (record { rank = 0; input = u }) has, arrived_at h x u has)
  comes [] x (suc k) u has enough noises = absurd (omega (arith, enough))
  comes (w ∷ ws) x zero u has enough noises = (clear_at h x (record { rank = 0; input = u }) has, inl (arrived_at h x u has))
  comes (w ∷ ws) x (suc k) u has enough noises =
      let next = next_row h x w k u has noises.0 in
      let below = next.2 in (
        clear_at h x (record { rank = suc k; input = u }) has,
        inr (
          u,
          record { plant = p; rows = rows; table = table; chosen = ap (option_and_then (applied p.goal)) has ∙ applies p.goal k u },
          comes ws (step_of p x u w) next.0.rank next.0.input next.1 (omega (arith, below, enough)) noises.1,
        ),
      )

  pub table_drives : Drives p bytes
  table_drives x k ws rank len noises =
      let row = row_of_table bytes p rows x k table rank in
      comes ws x row.0.rank row.0.input row.1 (omega (arith, row.2, len)) (recursion_from_All (IsNoise p.noises) ws noises)

pub tables_drive : RightTablesDrivePlants
tables_drive bytes p g rows table game right = table_drives (guides p rows table.1.limits.plant (record { game = g; abstraction = game; right = right })) bytes table
