use Rattle.std.proofs.Common.{◌≡◌, List, map, ◌∙◌, ap, rules}
use Rattle.std.specs.Prelude.{pos, FitsSigned}
use Rattle.std.specs.Int.{w128}
use Rattle.std.proofs.lemmas.Int.{to_z-of_z}
use Rattle.fixed_expr.specs.Expression.{NumExpr}
use Rattle.fixed_expr.specs.Value.{value_of}
use Rattle.grid_quantiser.specs.declared.axis.Axis.{Axis}
use Rattle.grid_quantiser.specs.Cells.{centre_of, point_of}
use Rattle.plant_record.specs.Description.{axes_of}
use Rattle.plant_record.specs.Steps.{equation_at}
use Rattle.plant_record.proofs.lemmas.SoundPlants.{sound as sound_plant}
use Rattle.successor_box.proofs.Steps.{step_stays}
use Rattle.successor_box.proofs.Below.{centres_are_near}
use Rattle.successor_box.specs.SuccessorBoxes.{noise_centre}
use Rattle.successor_box.proofs.Padding.{domain_more}
use Rattle.successor_box.proofs.CellValues.{centres_are_noise}
use Rattle.successor_box.proofs.Centres.{central_list}
use Rattle.successor_box.proofs.sampled.Sampled.next_along.Goals as goal

pub unreachable-requires : goal.unreachable-requires
unreachable-requires c =
    let p = c.args.self.now.plant.now in
    let plant = c.args.self.now.within.plant in
    let sound = sound_plant p plant in
    let start : c.centre-centre.result ≡ point_of (centre_of (axes_of p) c.args.c) = c.centre-centre.ensures ∙ ap (λ (axes : List Axis). point_of (centre_of axes c.args.c)) c.grid.ensures in
    let inside = domain_more (axes_of p) (centre_of (axes_of p) c.args.c) _ (centres_are_near (axes_of p) c.args.c sound.axes c.requires.pair.0).0.0 in
    let stays = step_stays p c.args.input (point_of (centre_of (axes_of p) c.args.c)) (point_of (map noise_centre p.noises)) sound c.args.self.now.fits c.requires.pair.1 inside (centres_are_noise p.noises _ plant.noises) in
    c.in-None.ensures (rw (start, c.noise_centres.ensures) (stays c.args.state (NumExpr (pos 0)) c.requires.state))

pub returns : goal.returns
returns c =
    let p = c.args.self.now.plant.now in
    let start : c.centre-centre.result ≡ point_of (centre_of (axes_of p) c.args.c) = c.centre-centre.ensures ∙ ap (λ (axes : List Axis). point_of (centre_of axes c.args.c)) c.grid.ensures in
    let fits : FitsSigned w128 c.in-Some.next = search rules in
    rw (to_z-of_z w128 c.in-Some.next fits) (rw (start, c.noise_centres.ensures) at c.in-Some.ensures.1) ∙ ap (value_of (equation_at p c.args.state)) (central_list p c.args.c c.args.input)
