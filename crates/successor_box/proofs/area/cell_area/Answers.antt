use Rattle.std.proofs.Common.{◌≡◌, ◌∙◌, List, ap, ap₂, length, take}
use Rattle.std.specs.Prelude.{ℤ}
use Rattle.grid_quantiser.specs.declared.axis.Axis.{Axis}
use Rattle.grid_quantiser.specs.Cells.{low_of, high_of, point_of}
use Rattle.plant_record.specs.Description.{axes_of}
use Rattle.successor_box.specs.SuccessorBoxes.{area_between}
use Rattle.successor_box.proofs.CellAreas.{low_count, high_count}
use Rattle.successor_box.proofs.Ranges.{point_front}
use Rattle.successor_box.proofs.area.cell_area.Goals as goal

pub returns : goal.returns
returns c =
    let p = c.args.p.now in
    let n = length p.states in
    let low : take n c.low.result ≡ low_of (axes_of p) c.args.c = ap (take n) (c.low.ensures ∙ ap (λ (axes : List Axis). point_of (low_of axes c.args.c)) c.grid-grid.ensures) ∙ point_front (low_of (axes_of p) c.args.c) n (low_count p c.args.c c.args.input) in
    let high : take n c.high.result ≡ high_of (axes_of p) c.args.c = ap (take n) (c.high.ensures ∙ ap (λ (axes : List Axis). point_of (high_of axes c.args.c)) c.grid-grid.ensures) ∙ point_front (high_of (axes_of p) c.args.c) n (high_count p c.args.c c.args.input) in
    c.area_between.ensures ∙ ap₂ (λ (xs ys : List ℤ). area_between p xs ys c.args.input) low high
