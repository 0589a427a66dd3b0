use Rattle.std.proofs.Common.{◌≡◌, ◌+◌, length, get_or, sym, ap, ◌∙◌}
use Rattle.grid_quantiser.specs.CellBoxes.{cells_between}
use Rattle.plant_game.proofs.BoxCorners.{first_corner, last_corner}
use Rattle.abstraction_table.proofs.boxed_game.BoxedGame.cell_of.Goals as goal

pub returns-then-at-eq0 : goal.returns-then-at-eq0
returns-then-at-eq0 c =
    let grid = c.args.self.now.grid in
    let b = c.args.b in
    sym (first_corner grid b.first b.last c.args.self.now.in_memory.grid c.requires.ordered) ∙ ap (λ i. get_or (cells_between grid b.first b.last) i 0) (sym c.if-at-eq0.true)

pub returns-then-at-fan_of_box : goal.returns-then-at-fan_of_box
returns-then-at-fan_of_box c =
    let grid = c.args.self.now.grid in
    let b = c.args.b in
    let fan = c.requires.counted.cells in
    let told = c.fan_of_box.ensures in
    let last : c.args.at + 1 ≡ length (cells_between grid b.first b.last) = c.if-at-fan_of_box.true ∙ (told ∙ fan) in
    sym (last_corner grid b.first b.last c.args.self.now.in_memory.grid c.requires.ordered c.args.at last)
