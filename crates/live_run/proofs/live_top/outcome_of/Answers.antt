use Rattle.std.proofs.Common.{◌≡◌, subst}
use Rattle.run_devices.specs.Devices.{reading}
use Rattle.command_line.specs.declared.outcome.Outcome.TheVariants.{Usage}
use Rattle.live_run.specs.LiveRuns.{Ends}
use Rattle.live_run.proofs.live_top.outcome_of.Goals as goal

pub returns-in-Some : goal.returns-in-Some
returns-in-Some g c =
    let source = reading g.S.Source.left g.S.Source.faults g.S.Source.is_sound c.args.source.now c.carry_out.new.source in
    let not_usage : c.carry_out.result ≡ Usage → ⊥ = λ e. subst (Ends source.before) e c.carry_out.ensures.ends in
    record {
      usage = (λ e. absurd (not_usage e), λ none. absurd (none c.in-Some.readers c.in-Some.ensures.found));
      unused = λ e. absurd (not_usage e);
      of_command = λ other is. c.carry_out.ensures;
    }
