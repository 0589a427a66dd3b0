-- The facts that make a table, a text of reach and stay and one of a patrol, and those that keep one from being made.
use Rattle.std.proofs.Common.{inl, inr, ◌≡◌, ℕ, List, [], ◌∷◌, Option, refl, sym, subst, length}
use Rattle.game_core.specs.declared.game.Row.{Row}
use Rattle.game_core.specs.Game.{Game, IsGraph}
use Rattle.plant_record.specs.declared.aims.GoalKind.{GoalKind}
use Rattle.plant_record.specs.declared.aims.GoalKind.TheVariants.{Reach, Keep}
use Rattle.plant_record.specs.Description.{Description}
use Rattle.plant_record.specs.Limits.{IsWithinLimits}
use Rattle.plant_game.specs.Abstraction.{IsGameOf}
use Rattle.plant_game.specs.PlantSolution.{Solves, IsSolutionOf}
use Rattle.controller_table.specs.declared.table_fault.TableFault.{TableFault}
use Rattle.controller_table.specs.declared.table_fault.TableFault.TheVariants as tables
use Rattle.controller_table.specs.Laws.{IsGraphOver}
use Rattle.controller_table.specs.TableRefusals.{IsTableRefusedFor}
use Rattle.controller_table.specs.Tables.{RowsFit, IsTable}
use Rattle.controller_table.specs.KindTexts.{rows_text}
use Rattle.controller_table.specs.TableText.{written_version}
use Rattle.controller_table.specs.declared.text_kind.TextKind.TheVariants.{Table}
use Rattle.controller_table.proofs.SolutionsFit.{keep_fits}
use Rattle.controller_table.proofs.TableTexts.{as_table}
use Rattle.controller_table.specs.TextKinds.{HasFewTurns}
use Rattle.plant_refine.proofs.SolutionTables.{tables_control}
use Rattle.synth_run.specs.Headline.{IsTableOf, IsStayTableOf, IsPatrolTableOf}
use Rattle.command_line.specs.declared.outcome.Refusal.{Refusal}
use Rattle.text_abstraction.specs.declared.stop.Stop.{Stop}
use Rattle.text_abstraction.specs.Causes.{of_table, IsStopFor}
use Rattle.text_abstraction.proofs.PlantTexts.{IsStopFor-weaker}
use Rattle.command_outcomes.specs.Stages.{IsTableRefusal, IsPlantRefusal, IsPatrolRefusal, IsTextRefusal}
use Rattle.command_outcomes.proofs.Below.{reach_fits}
use Rattle.temporal_games.specs.Stay.{IsStaySolution}
use Rattle.temporal_texts.specs.StayText.{stay_text}
use Rattle.temporal_promises.proofs.StayLaws.{solution_has_stay_text, stay_text_settles}
use Rattle.turn_rows.specs.Targets.{IsInTarget}
use Rattle.temporal_games.specs.Patrol.{IsPatrol}
use Rattle.temporal_texts.specs.PatrolText.{patrol_text}
use Rattle.temporal_promises.proofs.PatrolLaws.{solution_has_patrol_text, patrol_text_patrols}

-- the rows of a solution fit its plant
pub solution_fits : (p : Description) (g : Game) (rows : List (Option Row)) (goal : GoalKind) → goal ≡ p.goal → IsGraphOver p g → Solves goal g rows → RowsFit p rows
solution_fits p g rows Reach same graph solution = reach_fits p g rows (sym same) graph solution
solution_fits p g rows Keep same graph solution = keep_fits p g rows (sym same) graph solution

-- the text of a plant within the limits and of the solution of its game
pub solution_table : (p : Description) (g : Game) (rows : List (Option Row)) (goal : GoalKind) → IsWithinLimits p → goal ≡ p.goal → IsGraph g → IsGameOf p g → Solves goal g rows → IsTableOf p (rows_text (Table written_version) p (rows ∷ []))
solution_table p g rows goal limits same graph abstraction solution =
    let fits = solution_fits p g rows goal same (record { graph = graph; cells = abstraction.cells; inputs = abstraction.inputs }) solution in
    let solved : IsSolutionOf p rows = record { game = g; abstraction = abstraction; solution = subst (λ (k : GoalKind). Solves k g rows) same solution } in
    record {
      rows = rows;
      solution = solved;
      fitting = fits;
      text_is = refl;
      controls = tables_control (rows_text (Table written_version) p (rows ∷ [])) p rows (written_version, as_table written_version (rows_text (Table written_version) p (rows ∷ [])) p rows limits fits refl) solved;
    }

-- the text of a plant within the limits and of the solution of its game
pub stay_table : (p : Description) (g : Game) (rows : List (Option Row)) → IsWithinLimits p → IsGameOf p g → IsStaySolution g rows → IsStayTableOf p (stay_text p rows)
stay_table p g rows limits abstraction solution =
    let table = solution_has_stay_text p g rows limits abstraction solution in
    record {
      game = g;
      abstraction = abstraction;
      rows = rows;
      solution = solution;
      table = table;
      settles = stay_text_settles (stay_text p rows) p g rows table abstraction solution;
    }

-- the text of a plant within the limits and of the solution of its patrol
pub patrol_table : (p : Description) (g : Game) (rows : List (List (Option Row))) → IsWithinLimits p → HasFewTurns p → IsGameOf p g → IsPatrol g (IsInTarget p) (length p.targets) rows → IsPatrolTableOf p (patrol_text p rows)
patrol_table p g rows limits few abstraction solution =
    let table = solution_has_patrol_text p g rows limits few abstraction solution in
    record {
      game = g;
      abstraction = abstraction;
      rows = rows;
      solution = solution;
      table = table;
      patrols = patrol_text_patrols (patrol_text p rows) p g rows table abstraction solution;
    }

-- what a reader of tables refuses is refused, whatever is asked of the table's plant and rows
pub table_stop : (Refuses : Description → List (Option Row) → Refusal → Type 0) (bytes : List ℕ) (fault : TableFault) → ((fault ≡ tables.Memory → ⊥) → IsTableRefusedFor bytes fault) → IsStopFor (IsTableRefusal Refuses bytes) (of_table fault)
table_stop Refuses bytes (tables.Malformed line) refused = inl (inl (line, refl, refused (λ e. cc)))
table_stop Refuses bytes (tables.Limit what) refused = inl (inr (what, refl, refused (λ e. cc)))
table_stop Refuses bytes tables.Memory refused = tt

-- what is asked of them refuses the table
pub rows_stop : (Refuses : Description → List (Option Row) → Refusal → Type 0) (bytes : List ℕ) (p : Description) (rows : List (Option Row)) (stop : Stop) → IsTable bytes p rows → IsStopFor (Refuses p rows) stop → IsStopFor (IsTableRefusal Refuses bytes) stop
rows_stop Refuses bytes p rows stop table = IsStopFor-weaker (Refuses p rows) (IsTableRefusal Refuses bytes) (λ r h. inr (p, rows, table, h)) stop

-- what refuses a plant refuses a patrol of its targets
pub patrol_stop : (bytes : List ℕ) (stop : Stop) → IsStopFor (IsTextRefusal IsPlantRefusal bytes) stop → IsStopFor (IsTextRefusal IsPatrolRefusal bytes) stop
patrol_stop bytes = IsStopFor-weaker (IsTextRefusal IsPlantRefusal bytes) (IsTextRefusal IsPatrolRefusal bytes) (λ r h. elim h [
  | inl refused ↦ inl refused
  | inr accepted ↦ inr (accepted.0, accepted.1, inl accepted.2)
])
