use Rattle.std.proofs.Common.{◌≡◌, arith, subst, List, length}
use Rattle.std.specs.List.{Contains}
use Rattle.std.proofs.lemmas.Option.{get_or_from_slice_get}
use Rattle.grid_quantiser.specs.declared.axis.Axis.{Axis}
use Rattle.grid_quantiser.specs.CellBoxes.{Touches, IsBoxWith}
use Rattle.game_core.specs.declared.game.Mark.TheVariants.{Obstacle}
use Rattle.plant_record.specs.declared.aims.StateBox.{StateBox}
use Rattle.plant_record.specs.Description.{axes_of}
use Rattle.successor_box.specs.SuccessorBoxes.{cells_in}
use Rattle.plant_game.specs.Marks.{AreMarked}
use Rattle.plant_game.proofs.Marking.{box_marked}
use Rattle.plant_game.proofs.PlantMarks.{no_box, one_more, any_marked}
use Rattle.plant_game.proofs.marks.mark_obstacles.Goals as goal

pub loop-k-preserved : goal.loop-k-preserved
loop-k-preserved c =
    let p = c.args.p.now in
    let axes = axes_of p in
    let lo = c.obstacle.result.0 in
    let hi = c.obstacle.result.1 in
    let found = c.touching.result in
    let before = c.loop-k.marks in
    let after = c.mark_box.new.marks in
    let box = subst (λ (axes : List Axis). IsBoxWith axes (λ i. Touches axes i lo hi) found) c.grid-grid.ensures c.touching.ensures in
    let marked = subst (λ (axes : List Axis). AreMarked Obstacle (Contains (cells_in axes found)) before after) c.grid-grid.ensures c.mark_box.ensures in
    let obstacle : StateBox = record { low = lo; high = hi } in
    one_more Obstacle (λ i b. Touches axes i b.low b.high) p.obstacles c.loop-k.k obstacle c.args.marks.now before after (get_or_from_slice_get p.obstacles c.loop-k.k obstacle no_box c.obstacle.ensures) c.loop-k.invariant
    (box_marked Obstacle axes (λ i. Touches axes i lo hi) found before after box marked)

pub returns : goal.returns
returns c =
    let p = c.args.p.now in
    let all : c.loop-k.k ≡ length p.obstacles = omega (arith, c.obstacles-k-end.ensures) in
    any_marked Obstacle (λ i b. Touches (axes_of p) i b.low b.high) p.obstacles c.loop-k.k c.args.marks.now c.loop-k.marks all c.loop-k.invariant
