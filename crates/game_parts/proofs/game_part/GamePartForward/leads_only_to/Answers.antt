use Rattle.std.proofs.Common.{◌≢◌, ◌*◌, ℕ, List, [], All, sym, ap, subst, ◌∙◌, arith}
use Rattle.std.specs.Prelude.{◌↔◌, IsTrue}
use Rattle.grid_quantiser.specs.Axes.{cells_of}
use Rattle.source_lists.specs.Shapes.{cells_listed}
use Rattle.source_lists.proofs.PassingBoxes.{listed_box, successors_listed}
use Rattle.game_parts.specs.inside.Padded.{padded}
use Rattle.game_parts.proofs.game_part.GamePartForward.leads_only_to.Goals as goal

pub box_passes-requires : goal.box_passes-requires
box_passes-requires g c =
    let a = c.args.self.now in
    let boxes = padded a.first a.boxes.now (cells_of a.grid * a.inputs) in
    record {
      listed = rw c.box_of.ensures (listed_box a.grid a.inputs a.marks.now boxes a.in_memory a.shapes.now a.listed c.args.pair c.requires.pair (g.T.CellTest.cells c.args.test.now) c.requires.cells);
      few = omega (arith, c.requires.cells, a.in_memory.graph.cells_bound);
    }

pub returns : goal.returns
returns g c =
    let P = g.T.CellTest.passes c.args.test.now in
    let a = c.args.self.now in
    let boxes = padded a.first a.boxes.now (cells_of a.grid * a.inputs) in
    let same = successors_listed a.grid a.inputs a.marks.now boxes a.in_memory a.shapes.now a.listed c.args.pair c.requires.pair ∙ ap (cells_listed a.shapes.now) (sym c.box_of.ensures) in
    subst (λ (cells : List ℕ). IsTrue c.box_passes.result ↔ (cells ≢ []) × All P cells) (sym same) c.box_passes.ensures
