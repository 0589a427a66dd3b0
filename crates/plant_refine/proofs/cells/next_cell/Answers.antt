use Rattle.std.proofs.Common.{◌≡◌, true, false, sym, subst, ◌∙◌}
use Rattle.std.specs.List.{Contains}
use Rattle.grid_quantiser.specs.Cells.{IsInDomain, cell_of}
use Rattle.plant_record.specs.Description.{axes_of}
use Rattle.plant_record.specs.Steps.{step_of}
use Rattle.plant_record.proofs.lemmas.SoundPlants.{sound as sound_plant}
use Rattle.successor_box.proofs.Steps.{step_stays}
use Rattle.plant_refine.proofs.Landing.{lands}
use Rattle.plant_refine.proofs.cells.next_cell.Goals as goal

pub unreachable-requires : goal.unreachable-requires
unreachable-requires c =
    let sound = sound_plant c.args.p.now c.every_plant_is_within_limits.ensures.plant in
    c.in_default.ensures (step_stays c.args.p.now c.args.input c.args.x.now c.args.noise.now sound c.requires.fits c.requires.input c.requires.inside c.requires.noise)

pub unreachable-requires-in_default-cell_of : goal.unreachable-requires-in_default-cell_of
unreachable-requires-in_default-cell_of c =
    let p = c.args.p.now in
    let sound = sound_plant p c.every_plant_is_within_limits.ensures.plant in
    let landing = lands p c.args.input c.args.x.now c.args.noise.now sound c.requires.inside c.requires.enabled c.requires.noise in
    let inside : IsInDomain c.grid.result.now c.in-Some.next = rw (c.grid.ensures, c.in-Some.ensures.1) landing.point_inside in
    let false-true : false ≡ true = c.in_default-cell_of.ensures.inside.1 inside in
    cc

pub returns : goal.returns
returns c =
    let p = c.args.p.now in
    let sound = sound_plant p c.every_plant_is_within_limits.ensures.plant in
    let landing = lands p c.args.input c.args.x.now c.args.noise.now sound c.requires.inside c.requires.enabled c.requires.noise in
    let cell : c.in-Some-cell_of.cell ≡ cell_of (axes_of p) (step_of p c.args.x.now c.args.input c.args.noise.now) = (rw (c.grid.ensures, c.in-Some.ensures.1) at c.in-Some-cell_of.ensures.cell) ∙ landing.cell in
    record {
      step = c.in-Some.ensures.1;
      inside = landing.inside;
      cell = cell;
      successor = λ cells successors. subst (Contains cells) (sym cell) (landing.among cells successors);
    }
