use Rattle.std.proofs.Common.{rules, arith}
use Rattle.std.specs.Prelude.{FitsSigned}
use Rattle.std.specs.Int.{w128}
use Rattle.std.proofs.lemmas.Int.{to_z-of_z}
use Rattle.successor_box.specs.inside.Area.{no_range}
use Rattle.successor_box.proofs.Ranges.{noise_between}
use Rattle.successor_box.proofs.area.range.Goals as goal

pub returns-in-Noise : goal.returns-in-Noise
returns-in-Noise c =
    let few = c.requires.plant.plant.states_bound in
    let r = c.noise_range-lo.result in
    let low : FitsSigned w128 r.0 = search rules in
    let high : FitsSigned w128 r.1 = search rules in
    rw (to_z-of_z w128 r.0 low, to_z-of_z w128 r.1 high)
    (noise_between c.args.p.now c.args.input c.args.low.now c.args.high.now (omega arith) (omega arith) c.args.k c.in-Noise.i r no_range c.in-Noise.ensures.0 c.noise_range-lo.ensures)
