use Rattle.demo_plants.proofs.Sizes.{within_limits}
use Rattle.demo_plants.proofs.laws.demo_plants_are_within_limits.Goals as goal

pub returns : goal.returns
returns c = within_limits
