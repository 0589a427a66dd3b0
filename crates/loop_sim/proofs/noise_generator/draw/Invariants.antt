use Rattle.std.proofs.Common.{◌≡◌, take}
use Rattle.grid_quantiser.specs.Cells.{point_of}
use Rattle.loop_sim.specs.Noise.{generator, noises_from}
use Rattle.loop_sim.proofs.noise_generator.draw.Given as goal

-- the noises so far, and the generator's state after them
abbrev pub invariant-loop-k : goal.invariant-loop-k
invariant-loop-k l =
    (l.noises ≡ point_of (take l.k (noises_from l.p.noises l.before 0))) × (l.state ≡ generator l.before l.k)
