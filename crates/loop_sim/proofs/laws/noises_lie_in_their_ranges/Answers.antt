use Rattle.std.proofs.Common.{◌*◌, [], length, subst}
use Rattle.std.specs.Prelude.{ℤ, List}
use Rattle.std.proofs.lemmas.List.{append-nil}
use Rattle.plant_record.specs.Steps.{IsNoise}
use Rattle.loop_sim.specs.Noise.{noises_at}
use Rattle.loop_sim.proofs.Draws.{noises_lie}
use Rattle.loop_sim.proofs.laws.noises_lie_in_their_ranges.Goals as goal

pub returns : goal.returns
returns c p seed t plant =
    subst (λ (w : List ℤ). IsNoise p.noises w) (append-nil (noises_at p seed t)) (noises_lie p.noises [] seed (t * length p.noises) plant.noises)
