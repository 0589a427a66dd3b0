use Rattle.std.proofs.Common.{◌≡◌, ◌+◌, ◌*◌, ◌<◌, length, sym, ap, subst, ◌∙◌, arith}
use Rattle.std.specs.Prelude.{ℕ}
use Rattle.std.proofs.lemmas.Grind.{not_there}
use Rattle.grid_quantiser.specs.Cells.{point_of}
use Rattle.plant_record.specs.Description.{Description, vectors_of}
use Rattle.plant_record.specs.Steps.{step_of, StepStaysInRange}
use Rattle.loop_sim.specs.Noise.{generator, noises_from}
use Rattle.loop_sim.proofs.Draws.{generator_more}
use Rattle.loop_sim.proofs.Steps.{row_fits, stays, drawn_step, lines_go_on}
use Rattle.loop_sim.proofs.closed_loop.next_sample.Goals as goal

pub step-requires : goal.step-requires
step-requires c =
    let t = c.args.t.now in
    subst (λ (p : Description). c.args.row.input < vectors_of p.inputs) (sym c.plant-p.ensures)
    (row_fits t.plant t.rows c.args.sample.now.x c.args.row c.requires.rows c.requires.row)

pub unreachable-requires : goal.unreachable-requires
unreachable-requires c =
    let t = c.args.t.now in
    let s = c.args.sample.now in
    let plant : c.plant-p.result.now ≡ t.plant = c.plant-p.ensures in
    let drawn : c.draw-state.result.0 ≡ point_of (noises_from t.plant.noises s.state 0) = c.draw-state.ensures.noises ∙ ap (λ (p : Description). point_of (noises_from p.noises s.state 0)) plant in
    not_there c.requires.fits
    (λ fits. c.in_default.ensures
    (subst (λ (p : Description). StepStaysInRange p s.x c.args.row.input c.draw-state.result.0) (sym c.plant-p.ensures)
    (stays t.plant t.rows s.x c.draw-state.result.0 c.args.row s.state c.requires.plant c.requires.rows fits c.requires.row drawn)))

pub returns-clause-sample : goal.returns-clause-sample
returns-clause-sample c =
    let t = c.args.t.now in
    let s = c.args.sample.now in
    let m = length t.plant.noises in
    let further : s.time * m + m ≡ (s.time + 1) * m = omega arith in
    record {
      state =
          c.draw-state.ensures.state
          ∙ ap (λ (p : Description). generator s.state (length p.noises)) c.plant-p.ensures
          ∙ ap (λ (n : ℕ). generator n m) c.requires.sample.state
          ∙ generator_more s.seed (s.time * m) m
          ∙ ap (generator s.seed) further;
      bound = omega (arith, c.requires.sample.bound, c.requires.left);
    }

pub returns-clause-lines : goal.returns-clause-lines
returns-clause-lines c =
    let t = c.args.t.now in
    let s = c.args.sample.now in
    let plant : c.plant-p.result.now ≡ t.plant = c.plant-p.ensures in
    let drawn : c.draw-state.result.0 ≡ point_of (noises_from t.plant.noises s.state 0) = c.draw-state.ensures.noises ∙ ap (λ (p : Description). point_of (noises_from p.noises s.state 0)) plant in
    lines_go_on t s.seed s.left s.time s.x c.in-Some.x c.args.row c.requires.left
    (c.in-Some.ensures.1
    ∙ ap (λ (p : Description). point_of (step_of p s.x c.args.row.input c.draw-state.result.0)) c.plant-p.ensures
    ∙ ap point_of (drawn_step t.plant s.x c.draw-state.result.0 c.args.row.input s.seed s.time s.state c.requires.sample.state drawn))
