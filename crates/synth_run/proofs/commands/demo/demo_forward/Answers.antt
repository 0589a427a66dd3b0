use Rattle.std.proofs.Common.{◌≡◌, subst}
use Rattle.std.specs.Prelude.{IfOk}
use Rattle.plant_record.specs.Description.{Description}
use Rattle.plant_game.specs.Abstraction.{IsGameOf}
use Rattle.demo_plants.proofs.Solvable.{solvable}
use Rattle.abstraction_table.specs.Table.{forward_game}
use Rattle.abstraction_table.specs.declared.forward.ForwardAbstraction.{ForwardAbstraction}
use Rattle.command_outcomes.specs.Stages.{IsPlantRefusal}
use Rattle.text_abstraction.specs.Causes.{IsStopFor, without_memory}
use Rattle.text_abstraction.specs.declared.stop.Stop.{Stop}
use Rattle.synth_run.proofs.DemoRefusals.{no_refusal}
use Rattle.synth_run.proofs.commands.demo.demo_forward.Goals as goal
use Rattle.std.proofs.lemmas.Result.{IfErr-weaker}

pub returns-clause-game : goal.returns-clause-game
returns-clause-game g c =
    subst (λ (p : Description). IfOk c.forward_of.result (λ (forward : ForwardAbstraction). IsGameOf p (forward_game forward))) c.in_ok-plant.ensures c.forward_of.ensures.game

pub returns-clause-memory : goal.returns-clause-memory
returns-clause-memory g c =
    let n = c.args.n in
    IfErr-weaker c.forward_of.result (IsStopFor (IsPlantRefusal c.in_ok-plant.plant)) (λ (stop : Stop). stop ≡ without_memory)
    (λ stop refused. no_refusal n (solvable n c.requires) stop (subst (λ (p : Description). IsStopFor (IsPlantRefusal p) stop) c.in_ok-plant.ensures refused))
    c.forward_of.ensures.refused
