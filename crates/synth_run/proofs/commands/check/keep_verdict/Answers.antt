use Rattle.std.proofs.Common.{sym, subst}
use Rattle.plant_record.specs.declared.aims.GoalKind.{GoalKind}
use Rattle.plant_record.specs.Description.{Description}
use Rattle.plant_game.specs.Abstraction.{IsGameOf}
use Rattle.abstraction_table.specs.Table.{game_of}
use Rattle.command_outcomes.specs.IsOutcomeFor.{IsSolvable}
use Rattle.table_check.specs.Verdicts.{IsVerdictFor}
use Rattle.synth_run.proofs.commands.check.keep_verdict.Goals as goal

pub returns-clause-solvable : goal.returns-clause-solvable
returns-clause-solvable g c = subst IsSolvable c.plant.ensures c.in_ok-forward.ensures.solvable

pub returns-clause-verdict : goal.returns-clause-verdict
returns-clause-verdict g c =
    let game = game_of c.in_ok-game.game in
    record {
      game = game;
      abstraction = subst (λ (q : Description). IsGameOf q game) c.plant.ensures (subst (IsGameOf c.plant.result.now) (sym c.in_ok-game.ensures.game) c.in_ok-forward.ensures.game);
      judged = subst (λ (kind : GoalKind). IsVerdictFor kind game c.args.table.now.rows c.in_ok-verdict.verdict) (sym c.requires) c.in_ok-verdict.ensures;
    }
