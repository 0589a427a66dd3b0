use Rattle.std.proofs.Common.{◌≡◌, ℕ, List, sym, subst}
use Rattle.command_line.specs.declared.command.Command.TheVariants.{Demo}
use Rattle.text_abstraction.specs.declared.stop.Stop.{Stop}
use Rattle.synth_run.specs.declared.work.Work.{Work}
use Rattle.text_abstraction.specs.Causes.{IsStopFor, without_memory}
use Rattle.synth_run.specs.inside.Making.{IsMade}
use Rattle.command_outcomes.specs.Stages.{IsStagedRefusal}
use Rattle.synth_run.proofs.top.work_on.Goals as goal
use Rattle.std.proofs.lemmas.Result.{IfOk-weaker, IfErr-weaker}

pub returns-in-Synth : goal.returns-in-Synth
returns-in-Synth g c = rw c.in-Synth.is c.synth.ensures

pub returns-in-Check : goal.returns-in-Check
returns-in-Check g c = rw c.in-Check.is c.check.ensures

pub returns-in-Upgrade : goal.returns-in-Upgrade
returns-in-Upgrade g c = rw c.in-Upgrade.is c.upgrade.ensures

pub returns-in-Sim : goal.returns-in-Sim
returns-in-Sim g c = rw c.in-Sim.is c.sim.ensures

pub returns-in-Stay : goal.returns-in-Stay
returns-in-Stay g c = rw c.in-Stay.is c.stay.ensures

pub returns-in-Patrol : goal.returns-in-Patrol
returns-in-Patrol g c = rw c.in-Patrol.is c.patrol.ensures

pub returns-in-Demo-clause-made : goal.returns-in-Demo-clause-made
returns-in-Demo-clause-made g c =
    let command = Demo c.in-Demo.number c.in-Demo.workers in
    rw c.in-Demo.is
    (IfOk-weaker c.demo.result (λ (work : Work). (bytes : List ℕ) → IsMade command bytes work) (IsMade command c.args.bytes.now)
    (λ work made. made c.args.bytes.now) c.demo.ensures.made)

pub returns-in-Demo-clause-refused : goal.returns-in-Demo-clause-refused
returns-in-Demo-clause-refused g c =
    let command = Demo c.in-Demo.number c.in-Demo.workers in
    rw c.in-Demo.is
    (IfErr-weaker c.demo.result (λ (stop : Stop). stop ≡ without_memory) (IsStopFor (IsStagedRefusal command c.args.bytes.now))
    (λ stop memory. subst (λ (s : Stop). IsStopFor (IsStagedRefusal command c.args.bytes.now) s) (sym memory) tt) c.demo.ensures.memory)
