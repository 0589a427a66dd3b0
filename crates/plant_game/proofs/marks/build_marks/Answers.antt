use Rattle.std.proofs.Common.{◌≡◌, ◌∙◌, sym, List, length, replicate, ap, subst}
use Rattle.std.proofs.lemmas.List.{take_at, length-replicate}
use Rattle.grid_quantiser.specs.Axes.{cells_of}
use Rattle.game_core.specs.declared.game.Mark.{Mark}
use Rattle.game_core.specs.declared.game.Mark.TheVariants.{Goal, Obstacle, Plain}
use Rattle.plant_record.specs.Description.{axes_of}
use Rattle.plant_record.specs.CellMarks.{IsObstacleCell}
use Rattle.plant_game.specs.Marks.{LiesInSomeTarget, AreMarked}
use Rattle.plant_game.proofs.PlantMarks.{both_marked}
use Rattle.plant_game.proofs.marks.build_marks.Goals as goal

pub returns : goal.returns
returns c =
    let p = c.args.p.now in
    let n = c.in_ok-marks.marks.len in
    let between = c.mark_targets.new.marks in
    let after = c.mark_obstacles.new.marks in
    let plain : c.deref_mut.result.now ≡ replicate n Plain =
    c.deref_mut.ensures.value ∙ c.in_ok-marks.ensures.items_if_clones_equal (λ y same. same) ∙ ap (λ k. replicate k Plain) (sym c.in_ok-marks.ensures.len)
    in
    let goals = subst (λ (marks : List Mark). AreMarked Goal (LiesInSomeTarget p) marks between) plain c.mark_targets.ensures in
    let long_between : length between ≡ n = goals.long ∙ length-replicate n Plain in
    let kept : c.deref_mut-2.result.now ≡ between = c.deref_mut-2.ensures.value ∙ take_at between _ n long_between in
    let obstacles = subst (λ (marks : List Mark). AreMarked Obstacle (IsObstacleCell p) marks after) kept c.mark_obstacles.ensures in
    let cells : n ≡ cells_of (axes_of p) = c.in_ok-marks.ensures.len ∙ c.cells.ensures.count ∙ ap cells_of c.grid.ensures in
    rw (take_at after _ n (obstacles.long ∙ long_between)) (both_marked p n between after cells goals obstacles)
