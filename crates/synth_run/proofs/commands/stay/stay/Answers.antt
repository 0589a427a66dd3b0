use Rattle.std.proofs.Common.{refl, sym, subst}
use Rattle.plant_game.specs.Abstraction.{IsGameOf}
use Rattle.abstraction_table.specs.Table.{game_of}
use Rattle.temporal_texts.proofs.StayRows.{stay_held}
use Rattle.temporal_promises.proofs.FittingStayRows.{stay_rows_fit}
use Rattle.synth_run.proofs.Tables.{stay_table}
use Rattle.base.proofs.Results.{passed_on}
use Rattle.synth_run.proofs.commands.stay.stay.Goals as goal

pub of_one_turn-requires : goal.of_one_turn-requires
of_one_turn-requires g c =
    let p = c.in_ok-plant.plant in
    let fits = stay_rows_fit p (game_of c.in_ok-game.game) c.in_ok-rows.rows (subst (IsGameOf p) (sym c.in_ok-game.ensures.game) c.in_ok-plant.ensures.game) c.in_ok-rows.ensures in
    stay_held p c.in_ok-rows.rows c.in_ok-plant.ensures.accepted.limits fits

pub returns-clause-made : goal.returns-clause-made
returns-clause-made g c =
    let p = c.in_ok-plant.plant in
    let accepted = c.in_ok-plant.ensures.accepted in
    rw (c.of_text.ensures, c.in_ok-text.ensures)
    (record {
      can_be_written = refl;
      answer = (p, accepted, c.in_ok-plant.ensures.solvable, stay_table p (game_of c.in_ok-game.game) c.in_ok-rows.rows accepted.limits (subst (IsGameOf p) (sym c.in_ok-game.ensures.game) c.in_ok-plant.ensures.game) c.in_ok-rows.ensures);
      leaves = refl;
    })

pub returns-in_err-plant-clause-refused : goal.returns-in_err-plant-clause-refused
returns-in_err-plant-clause-refused g c = passed_on c.from_residual.result c.in_err-plant.field-0.0 _ c.from_residual.ensures.1 c.in_err-plant.ensures.refused
