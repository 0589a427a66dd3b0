use Rattle.std.proofs.Common.{inr, ◌*◌, ◌≤◌, ℕ, length, refl, sym, subst}
use Rattle.std.proofs.lemmas.Bool.{iff_false}
use Rattle.plant_game.specs.Abstraction.{IsGameOf}
use Rattle.abstraction_table.specs.Table.{game_of}
use Rattle.controller_table.specs.TextKinds.{HasFewTurns}
use Rattle.temporal_promises.proofs.FittingPatrolRows.{patrol_rows_fit}
use Rattle.synth_run.proofs.Tables.{patrol_table, patrol_stop}
use Rattle.base.proofs.Results.{passed_on}
use Rattle.synth_run.proofs.commands.patrol.patrol.Goals as goal

pub patrol-requires-clause-size : goal.patrol-requires-clause-size
patrol-requires-clause-size g c = λ κs within.
    let p = c.in_ok-plant.plant in
    let few : HasFewTurns p = c.has_few_turns.ensures.0 c.if-not-has_few_turns.false in
    subst (λ (n : ℕ). n * length p.targets ≤ 4194304) (sym (subst (IsGameOf p) (sym c.in_ok-game.ensures.game) c.in_ok-plant.ensures.game).cells) few

pub new-text-requires : goal.new-text-requires
new-text-requires g c =
    let p = c.in_ok-plant.plant in
    let few : HasFewTurns p = c.has_few_turns.ensures.0 c.if-not-has_few_turns.false in
    let fits = patrol_rows_fit p (game_of c.in_ok-game.game) c.in_ok-rows.rows (subst (IsGameOf p) (sym c.in_ok-game.ensures.game) c.in_ok-plant.ensures.game) c.in_ok-rows.ensures in
    record { limits = c.in_ok-plant.ensures.accepted.limits; few = few; within = fits }

pub returns-clause-made : goal.returns-clause-made
returns-clause-made g c =
    let p = c.in_ok-plant.plant in
    let accepted = c.in_ok-plant.ensures.accepted in
    let few : HasFewTurns p = c.has_few_turns.ensures.0 c.if-not-has_few_turns.false in
    rw (c.of_text.ensures, c.new-text.ensures)
    (record {
      can_be_written = refl;
      answer = (p, accepted, (c.in_ok-plant.ensures.solvable, few), patrol_table p (game_of c.in_ok-game.game) c.in_ok-rows.rows accepted.limits few (subst (IsGameOf p) (sym c.in_ok-game.ensures.game) c.in_ok-plant.ensures.game) c.in_ok-rows.ensures);
      leaves = refl;
    })

pub returns-then-not-has_few_turns-clause-refused : goal.returns-then-not-has_few_turns-clause-refused
returns-then-not-has_few_turns-clause-refused g c =
    let p = c.in_ok-plant.plant in
    let not_few = iff_false c.has_few_turns.ensures c.if-not-has_few_turns.true in
    inr (p, c.in_ok-plant.ensures.accepted, inr (refl, c.in_ok-plant.ensures.solvable, not_few))

pub returns-in_err-plant-clause-refused : goal.returns-in_err-plant-clause-refused
returns-in_err-plant-clause-refused g c =
    let stop = c.in_err-plant.field-0.0 in
    passed_on c.from_residual.result stop _ c.from_residual.ensures.1 (patrol_stop c.args.bytes.now stop c.in_err-plant.ensures.refused)
