use Rattle.std.proofs.Common.{◌≡◌, ℕ, ◌∙◌, ◌-◌, List, ap, ap₂, sym, length, take}
use Rattle.std.specs.Prelude.{ℤ}
use Rattle.grid_quantiser.specs.declared.axis.Axis.{Axis}
use Rattle.grid_quantiser.specs.Axes.{cells_of}
use Rattle.grid_quantiser.specs.Cells.{low_of, high_of, point_of}
use Rattle.plant_record.specs.Description.{axes_of}
use Rattle.plant_record.proofs.lemmas.SoundPlants.{sound as sound_plant}
use Rattle.successor_box.specs.SuccessorBoxes.{area_between}
use Rattle.successor_box.proofs.CellAreas.{low_count, high_count}
use Rattle.successor_box.proofs.Ranges.{point_front, area_is_between}
use Rattle.successor_box.proofs.area.domain_area.Goals as goal

pub returns : goal.returns
returns c =
    let p = c.args.p.now in
    let n = length p.states in
    let sound = sound_plant p c.requires.plant.plant in
    let axes = axes_of p in
    let low : take n c.low.result ≡ low_of axes 0 = ap (take n) (c.low.ensures ∙ ap (λ (l : List Axis). point_of (low_of l 0)) c.grid-grid.ensures) ∙ point_front (low_of axes 0) n (low_count p 0 c.args.input) in
    let high : take n c.high.result ≡ high_of axes (cells_of axes - 1) =
    ap (take n) (c.high.ensures ∙ ap (λ (k : ℕ). point_of (high_of c.grid-grid.result.now (k - 1))) c.cells-last.ensures.count ∙ ap (λ (l : List Axis). point_of (high_of l (cells_of l - 1))) c.grid-grid.ensures)
    ∙ point_front (high_of axes (cells_of axes - 1)) n (high_count p (cells_of axes - 1) c.args.input) in
    c.area_between.ensures ∙ ap₂ (λ (xs ys : List ℤ). area_between p xs ys c.args.input) low high ∙ sym (area_is_between p c.args.input sound)
