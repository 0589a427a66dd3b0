use Rattle.std.proofs.Common.{◌∙◌, ℕ, List, Option, Bor, ap, subst, arith}
use Rattle.std.specs.Prelude.{ℤ, IfSome}
use Rattle.plant_record.proofs.lemmas.InputVectors.{some_vectors}
use Rattle.plant_record.proofs.lemmas.SoundPlants.{sound as sound_plant}
use Rattle.fixed_expr.specs.Expression.{Expression}
use Rattle.expr_lanes.specs.LaneEval.{lane_of}
use Rattle.fixed_expr.specs.Value.{value_of}
use Rattle.successor_box.specs.AdditiveInputs.{AreInputIncrements}
use Rattle.successor_box.proofs.AdditiveInputs.{line_of_first}
use Rattle.successor_box.proofs.CellRanges.{equation_is, formed_at}
use Rattle.successor_box.specs.inside.Lines.{AreValuesUnder}
use Rattle.successor_box.proofs.sampled.Sampled.additive_line.Goals as goal

pub set_input-requires : goal.set_input-requires
set_input-requires c = omega (arith, some_vectors c.args.self.now.plant.now.inputs c.args.self.now.within.plant.inputs)

pub eval_along-requires : goal.eval_along-requires
eval_along-requires c =
    let p = c.args.self.now.plant.now in
    let values = c.lanes.ensures c.requires.line.0 (c.set_input.ensures.kept c.requires.line.0 c.requires.line.1) in
    formed_at p c.args.state c.equation.result.now _ (sound_plant p c.args.self.now.within.plant) c.requires.state c.equation.ensures values.long

pub returns-clause-line : goal.returns-clause-line
returns-clause-line c = λ cell centres.
    let p = c.args.self.now.plant.now in
    let i : ℕ = c.args.state in
    let at = c.lanes.result in
    let known : AreInputIncrements p i c.in_ok-increments.increments.now = subst (λ (o : Option (Bor (List ℤ))). IfSome o (λ s. AreInputIncrements p i s.now)) c.in_ok-increments.was c.requires.increments in
    let values = subst (λ (u : ℕ). AreValuesUnder p cell u at) c.set_input.ensures.input (c.lanes.ensures cell (c.set_input.ensures.kept cell centres)) in
    let is = equation_is p i c.equation.result.now c.equation.ensures in
    record {
      long = known.long;
      each = λ u lane input lt. line_of_first p i cell at (record { values = c.eval_along.new.found; increments = c.in_ok-increments.increments }) u lane known values input lt
          (c.in_ok-eval_along.ensures.1 lane lt ∙ ap (λ (e : Expression). value_of e (lane_of at lane)) is);
    }
