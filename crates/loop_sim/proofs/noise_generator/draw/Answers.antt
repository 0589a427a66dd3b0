use Rattle.std.proofs.Common.{◌≡◌, ℕ, suc, ◌+◌, ◌/◌, ◌%◌, ◌^◌, ◌∙◌, ap, rules, arith}
use Rattle.std.specs.Prelude.{pos, nat_abs, ◌+ℤ◌, ◌-ℤ◌, FitsSigned}
use Rattle.std.specs.Int.{w128}
use Rattle.std.proofs.lemmas.Int.{to_z-of_z}
use Rattle.std.proofs.lemmas.List.{take_all}
use Rattle.grid_quantiser.specs.Cells.{point_of}
use Rattle.loop_sim.specs.Noise.{generator, next_state, noises_from}
use Rattle.loop_sim.proofs.Draws.{noise_count, noise_at}
use Rattle.plant_record.proofs.lemmas.NextPoints.{point_more}
use Rattle.loop_sim.proofs.noise_generator.draw.Goals as goal

pub loop-k-preserved : goal.loop-k-preserved
loop-k-preserved c =
    let noises = c.args.p.now.noises in
    let k = c.loop-k.k in
    let limit = c.requires.plant.plant.noises_bound in
    let count = noise_count noises c.args.before 0 in
    let fits : FitsSigned w128 c.noise_of.result = search rules in
    let low : FitsSigned w128 c.noise_range-low.result.0 = search rules in
    let high : FitsSigned w128 c.noise_range-low.result.1 = search rules in
    let state : c.next_state-state.result ≡ generator c.args.before (suc k) = c.next_state-state.ensures ∙ ap next_state c.loop-k.invariant.1 in
    let next : suc k ≡ k + 1 = omega arith in
    let here : suc k ≡ suc (0 + k) = omega arith in
    let is = rw (to_z-of_z w128 c.noise_range-low.result.0 low, to_z-of_z w128 c.noise_range-low.result.1 high) at c.noise_of.ensures in (
      rw (to_z-of_z w128 c.noise_of.result fits, c.loop-k.invariant.0)
          (point_more (noises_from noises c.args.before 0) k c.noise_of.result (omega arith) (omega arith)
          (is ∙ ap (λ (s : ℕ). c.noise_range-low.result.0 +ℤ pos (s / 2 ^ 33 % (nat_abs (c.noise_range-low.result.1 -ℤ c.noise_range-low.result.0) + 1))) (state ∙ ap (generator c.args.before) here) ∙ noise_at noises c.args.before 0 k c.noise_range-low.result (pos 0) c.noise_range-low.ensures)),
      state ∙ ap (generator c.args.before) next,
    )

pub returns-clause-noises : goal.returns-clause-noises
returns-clause-noises c =
    let noises = c.args.p.now.noises in
    let count = noise_count noises c.args.before 0 in
    c.loop-k.invariant.0 ∙ ap point_of (take_all c.loop-k.k (noises_from noises c.args.before 0) (omega arith))
