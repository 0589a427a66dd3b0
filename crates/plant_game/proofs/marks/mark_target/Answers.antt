use Rattle.std.proofs.Common.{◌≡◌, ◌<◌, arith, sym, subst, List}
use Rattle.std.specs.List.{Contains}
use Rattle.std.proofs.lemmas.Option.{get_or_from_slice_get}
use Rattle.grid_quantiser.specs.declared.axis.Axis.{Axis}
use Rattle.grid_quantiser.specs.Axes.{cells_of}
use Rattle.grid_quantiser.specs.CellBoxes.{LiesInside, IsBoxWith}
use Rattle.game_core.specs.declared.game.Mark.TheVariants.{Goal}
use Rattle.plant_record.specs.declared.aims.StateBox.{StateBox}
use Rattle.plant_record.specs.Description.{axes_of}
use Rattle.successor_box.specs.SuccessorBoxes.{cells_in}
use Rattle.turn_rows.specs.Targets.{target_at}
use Rattle.plant_game.specs.Marks.{AreMarked}
use Rattle.plant_game.proofs.Marking.{marked_likewise, box_marked}
use Rattle.plant_game.proofs.PlantMarks.{no_box}
use Rattle.plant_game.proofs.marks.mark_target.Goals as goal

pub returns : goal.returns
returns c =
    let p = c.args.p.now in
    let axes = axes_of p in
    let lo = c.target.result.0 in
    let hi = c.target.result.1 in
    let found = c.within.result in
    let before = c.args.marks.now in
    let after = c.mark_box.new.marks in
    let target : target_at p c.args.target ≡ record { low = lo; high = hi } = get_or_from_slice_get p.targets c.args.target (record { low = lo; high = hi }) no_box c.target.ensures in
    let box = subst (λ (axes : List Axis). IsBoxWith axes (λ i. (i < cells_of axes) × LiesInside axes i lo hi) found) c.grid-grid.ensures c.within.ensures in
    let marked = subst (λ (axes : List Axis). AreMarked Goal (Contains (cells_in axes found)) before after) c.grid-grid.ensures c.mark_box.ensures in
    subst (λ (b : StateBox). AreMarked Goal (λ i. LiesInside axes i b.low b.high) before after) (sym target)
    (marked_likewise Goal (λ i. (i < cells_of axes) × LiesInside axes i lo hi) (λ i. LiesInside axes i lo hi) before after
    (λ i below. (λ (both : (i < cells_of axes) × LiesInside axes i lo hi). both.1, λ inside. (omega (arith, below, c.requires.one_each), inside)))
    (box_marked Goal axes (λ i. (i < cells_of axes) × LiesInside axes i lo hi) found before after box marked))
