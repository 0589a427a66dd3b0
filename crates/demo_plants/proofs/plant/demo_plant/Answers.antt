use Rattle.std.proofs.Common.{◌∙◌, rules}
use Rattle.demo_plants.proofs.ReadBack.{reads_back, never_refused}
use Rattle.demo_plants.proofs.plant.demo_plant.Goals as goal

pub returns-in-Ok : goal.returns-in-Ok
returns-in-Ok c = reads_back c.args.n c.requires c.deref.result.now (c.deref.ensures.value ∙ c.in_ok-text.ensures) c.in-Ok.plant c.in-Ok.ensures.spelled

pub unreachable-requires : goal.unreachable-requires
unreachable-requires c = never_refused c.args.n c.requires c.deref.result.now (c.deref.ensures.value ∙ c.in_ok-text.ensures) c.in-Err.field-0 (c.in-Err.ensures.refused (λ e. search rules))
